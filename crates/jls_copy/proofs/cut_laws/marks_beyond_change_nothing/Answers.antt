use Rattle.jls_copy.proofs.NumbersGiven.{marks_beyond_change_nothing}
use Rattle.jls_copy.proofs.cut_laws.marks_beyond_change_nothing.Goals as goal

pub returns : goal.returns
returns c = marks_beyond_change_nothing
