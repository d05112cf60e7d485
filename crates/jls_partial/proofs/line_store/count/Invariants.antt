use Rattle.std.proofs.Common.{◌≡◌, ◌+◌, length}
use Rattle.jls_partial.proofs.line_store.count.Given as goal

-- the entries counted and those left are all of them
abbrev pub invariant-loop : goal.invariant-loop
invariant-loop l = l.count + length l.iterator' ≡ length l.fn.entries
