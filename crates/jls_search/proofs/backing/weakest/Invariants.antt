use Rattle.std.proofs.Common.{◌<◌, length}
use Rattle.jls_search.proofs.backing.weakest.Given as goal

abbrev pub invariant-loop-place : goal.invariant-loop-place
invariant-loop-place l = l.least < length l.living
