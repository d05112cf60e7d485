use Rattle.std.proofs.Common.{◌<◌, ◌≤◌, ℕ, []}
use Rattle.std.specs.Prelude.{get_or}
use Rattle.std.specs.List.{AllByRecursion}
use Rattle.jls_partial.specs.Partial.{readings_at}
use Rattle.jls_search.proofs.ceiling.is_line_within.Given as goal

abbrev pub invariant-loop-i : goal.invariant-loop-i
invariant-loop-i l =
    (i : ℕ) → i < l.i → AllByRecursion (λ sample. sample ≤ l.ceiling) (get_or (readings_at l.partial l.component l.line) i [])
