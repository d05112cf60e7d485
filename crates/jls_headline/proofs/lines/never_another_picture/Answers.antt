use Rattle.jls_headline.proofs.CollectedPictures.{never_another_picture}
use Rattle.jls_headline.proofs.lines.never_another_picture.Goals as goal

pub returns : goal.returns
returns c = never_another_picture
