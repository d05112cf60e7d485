use Rattle.std.proofs.Common.{◌≡◌, ℕ, ◌<◌, [], map, get_or}
use Rattle.jls_search.proofs.choosing.first_equal.Given as goal

abbrev pub invariant-loop-other : goal.invariant-loop-other
invariant-loop-other l = (k : ℕ) → k < l.other → get_or (map (λ way. way.now) l.ways) k [] ≡ get_or (map (λ way. way.now) l.ways) l.copy []
    → ⊥
