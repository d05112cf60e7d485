use Rattle.jls_partial.proofs.Parts.{parts_join}
use Rattle.jls_partial.proofs.laws.parts_give_the_picture.Goals as goal

pub returns : goal.returns
returns c = parts_join
