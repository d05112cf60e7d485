use Rattle.jls_copy.proofs.NumbersGiven.{numbers_are_least}
use Rattle.jls_copy.proofs.cut_laws.numbers_are_least.Goals as goal

pub returns : goal.returns
returns c = numbers_are_least
