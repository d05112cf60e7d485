use Rattle.std.proofs.Common.{arith, length-append}
use Rattle.jls_partial.proofs.slots.Tree.+add_sources.Goals as goal
use Rattle.jls_partial.proofs.slots.Tree.+add_sources.Goals.{then-at-before, else-at-before+then-at-before-2}
use Rattle.jls_partial.proofs.slots.Tree.+add_sources.Goals.{else-at-before+else-at-before-2}

pub invariant_of-self : goal.invariant_of-self
invariant_of-self t c =
    elim c.if-at-before.branch [
      | then-at-before w ↦ rw w.self-inside-is (grind (arith, length-append, c.self.invariant, c.in-Some.is, w.add_sources.ensures.len))
      | else-at-before+then-at-before-2 w ↦
          rw w.self-inside-is (grind (arith, length-append, c.self.invariant, c.in-Some.is, w.add_sources-then-at-before-2.ensures.len))
      | else-at-before+else-at-before-2 w ↦ rw w.self-inside-is (grind (arith, length-append, c.self.invariant, c.in-Some.is))
    ]
