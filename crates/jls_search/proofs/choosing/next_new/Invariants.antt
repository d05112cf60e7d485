use Rattle.std.proofs.Common.{length, ◌-◌, ℕ, ◌<◌, map}
use Rattle.jls_search.specs.Choices.{IsNew}
use Rattle.jls_search.proofs.choosing.next_new.Given as goal

abbrev pub invariant-loop-choice : goal.invariant-loop-choice
invariant-loop-choice l = (l.after < l.choice)
    × ((other : ℕ) → l.after < other → other < l.choice → IsNew (map (λ way. way.now) l.ways) other → ⊥)

abbrev pub decreases-loop-choice : goal.decreases-loop-choice
decreases-loop-choice l = length l.ways - l.choice
