use Rattle.std.proofs.Common.{◌≡◌, ◌≤◌, length, take}
use Rattle.std.specs.List.{sum_by}
use Rattle.jls_diff.specs.PartsOf.{bytes_of}
use Rattle.jls_search.proofs.short.are_short.Given as goal

abbrev pub invariant-loop-copy : goal.invariant-loop-copy
invariant-loop-copy l = (l.count ≡ sum_by length (bytes_of (take l.copy-index l.copies))) × (l.count ≤ 9223372036854775807)
