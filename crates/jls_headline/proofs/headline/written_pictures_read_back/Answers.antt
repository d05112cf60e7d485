use Rattle.jls_headline.proofs.WrittenFiles.{files_read_back}
use Rattle.jls_headline.proofs.headline.written_pictures_read_back.Goals as goal

pub returns : goal.returns
returns c = files_read_back c.args.picture.now c.pictures_are_whole.ensures.picture
