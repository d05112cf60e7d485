use Rattle.jls_headline.proofs.Pictures.{files_read_as_one}
use Rattle.jls_headline.proofs.headline.files_read_as_one.Goals as goal

pub returns : goal.returns
returns c = files_read_as_one
