use Rattle.std.proofs.Common.{◌≡◌, ℕ, ◌<◌, [], get_or}
use Rattle.jls_diff.specs.Parts.{made}
use Rattle.jls_diff.specs.PartsOf.{bytes_of, parts_of}
use Rattle.jls_diff.proofs.checking.are_parts.Given as goal

abbrev pub invariant-loop-copy : goal.invariant-loop-copy
invariant-loop-copy l = (j : ℕ) → j < l.copy → made j (parts_of l.parts) ≡ get_or (bytes_of l.copies) j []
