use Rattle.std.proofs.Common.{◌-◌, length}
use Rattle.jls_bad.proofs.choice.cut_of.Given as goal

abbrev pub decreases-loop-at : goal.decreases-loop-at
decreases-loop-at l = length l.bytes - l.at
