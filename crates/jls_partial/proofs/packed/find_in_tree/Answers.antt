use Rattle.std.proofs.Common.{◌≡◌, ℕ, ◌+◌, get_or, sym, subst, ◌∙◌}
use Rattle.jls_partial.specs.Packed.{lines_of}
use Rattle.jls_partial.proofs.Searches.{IsLeft, all_left, middle_inside, found, right_left, left_left}
use Rattle.jls_partial.proofs.packed.find_in_tree.Goals as goal

pub loop-left-init : goal.loop-left-init
loop-left-init c = all_left c.args.width c.args.packed.now c.args.tree.now c.args.samples.now

pub samples_at-requires : goal.samples_at-requires
samples_at-requires c = middle_inside c.args.width c.args.packed.now c.args.tree.now c.loop-left.rest.now c.loop-left.before
    c.args.samples.now c.loop-left.invariant c.in-Some.left.now c.in-Some.slot.now c.in-Some.right.now c.in-Some.ensures c.requires.inside

-- the slot found has the samples
pub returns-in-Equal-clause-same : goal.returns-in-Equal-clause-same
returns-in-Equal-clause-same c =
    subst (λ (n : ℕ). get_or (lines_of c.args.width c.args.packed.now c.args.tree.now) (c.loop-left.before + n) c.args.samples.now
    ≡ c.args.samples.now) (sym c.len-in-Some.ensures.value)
    (found c.args.width c.args.packed.now c.args.tree.now c.loop-left.rest.now c.loop-left.before c.args.samples.now c.loop-left.invariant
    c.in-Some.left.now c.in-Some.slot.now c.in-Some.right.now c.in-Some.ensures c.requires.sorted c.samples_at.result.now
    c.samples_at.ensures (sym c.cmp.ensures ∙ c.in-Equal.is))

-- the slot is below the samples: they are to its right
pub loop-left-preserved-in-Less : goal.loop-left-preserved-in-Less
loop-left-preserved-in-Less c =
    subst (λ (n : ℕ). IsLeft c.args.width c.args.packed.now c.args.tree.now c.in-Some.right.now (c.loop-left.before + n + 1)
    c.args.samples.now) (sym c.len-in-Some.ensures.value)
    (right_left c.args.width c.args.packed.now c.args.tree.now c.loop-left.rest.now c.loop-left.before c.args.samples.now
    c.loop-left.invariant c.in-Some.left.now c.in-Some.slot.now c.in-Some.right.now c.in-Some.ensures c.requires.sorted
    c.samples_at.result.now c.samples_at.ensures (sym c.cmp.ensures ∙ c.in-Less.is))

pub loop-left-preserved : goal.loop-left-preserved
loop-left-preserved c = left_left c.args.width c.args.packed.now c.args.tree.now c.loop-left.rest.now c.loop-left.before c.args.samples.now
    c.loop-left.invariant c.in-Some.left.now c.in-Some.slot.now c.in-Some.right.now c.in-Some.ensures c.requires.sorted
    c.samples_at.result.now c.samples_at.ensures (sym c.cmp.ensures ∙ c.in-Greater.is)
