use Rattle.std.proofs.Common.{◌≤◌, length}
use Rattle.jls_search.proofs.reading_splices.most_shared.Given as goal

abbrev pub invariant-loop-number : goal.invariant-loop-number
invariant-loop-number l = l.most ≤ length l.path
