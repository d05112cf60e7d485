use Rattle.jls_copy.proofs.NumbersGiven.{lost_marks_are_bridged}
use Rattle.jls_copy.proofs.cut_laws.lost_marks_are_bridged.Goals as goal

pub returns : goal.returns
returns c = lost_marks_are_bridged
