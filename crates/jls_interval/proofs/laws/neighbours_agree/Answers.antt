use Rattle.jls_interval.proofs.NeighboursAgree.{neighbours_are}
use Rattle.jls_interval.proofs.laws.neighbours_agree.Goals as goal

pub returns : goal.returns
returns c = λ width components lines j x some within. neighbours_are components lines j some within width x
