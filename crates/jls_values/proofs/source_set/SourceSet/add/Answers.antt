use Rattle.std.proofs.Common.{◌≡◌, ℕ, ◌<◌, ◌^◌, List, true, false, not, ap, sym, subst, ◌∙◌, arith}
use Rattle.std.specs.Ordering.{nat_cmp}
use Rattle.jls_values.specs.OrderedSet as set
use Rattle.jls_values.specs.SourceList.{IsSourceList}
use Rattle.jls_values.proofs.SourceLists.{IsGap, found, gap, gap-new, from_list-insert, sources-insert, insert-there}
use Rattle.jls_values.proofs.source_set.SourceSet.add.Goals as goal

absent : (xs : List ℕ) (i x : ℕ) (s : set.OrderedSet nat_cmp) → set.from_list xs ≡ s → IsGap xs i x → set.contains s x ≡ false
absent xs i x s is g = ap (λ (t : set.OrderedSet nat_cmp). set.contains t x) (sym is) ∙ gap-new xs i x g

pub returns-in-Ok-clause-held : goal.returns-in-Ok-clause-held
returns-in-Ok-clause-held c =
    sym (insert-there c.args.self.now c.args.source
    (found c.self.inside.numbers.items c.deref.result.now c.in-Ok.field-0 c.args.source c.args.self.now c.self.invariant c.self.view_is
    c.deref.ensures.value c.in-Ok.ensures.position))

pub returns-in-Ok-clause-added : goal.returns-in-Ok-clause-added
returns-in-Ok-clause-added c =
    sym (ap not (found c.self.inside.numbers.items c.deref.result.now c.in-Ok.field-0 c.args.source c.args.self.now c.self.invariant
    c.self.view_is c.deref.ensures.value c.in-Ok.ensures.position))

-- a number that is there needs no memory
pub returns-in_err-insert-in-Err-clause-no_memory : goal.returns-in_err-insert-in-Err-clause-no_memory
returns-in_err-insert-in-Err-clause-no_memory c = λ h.
    let g = gap c.self.inside.numbers.items c.deref.result.now c.in-Err.at c.args.source c.self.invariant c.deref.ensures.value
    c.in-Err.ensures.position in
    let bad : true ≡ false = sym h ∙ absent c.self.inside.numbers.items c.in-Err.at c.args.source c.args.self.now c.self.view_is g in
    absurd cc

-- the numbers rise with the new one
pub invariant_of-self-in-Err : goal.invariant_of-self-in-Err
invariant_of-self-in-Err c =
    let g = gap c.self.inside.numbers.items c.deref.result.now c.in-Err.at c.args.source c.self.invariant c.deref.ensures.value
    c.in-Err.ensures.position in
    let fits : c.args.source < 2 ^ 32 = omega arith in
    subst IsSourceList (sym c.in_ok-insert-in-Err.ensures.items)
    (sources-insert c.self.inside.numbers.items c.in-Err.at c.args.source fits g c.self.invariant)

-- the new number is in the set
pub returns-in_ok-insert-in-Err-clause-held : goal.returns-in_ok-insert-in-Err-clause-held
returns-in_ok-insert-in-Err-clause-held c =
    let g = gap c.self.inside.numbers.items c.deref.result.now c.in-Err.at c.args.source c.self.invariant c.deref.ensures.value
    c.in-Err.ensures.position in
    ap set.from_list c.in_ok-insert-in-Err.ensures.items ∙ from_list-insert c.self.inside.numbers.items c.in-Err.at c.args.source g.within
    ∙ ap (λ (t : set.OrderedSet nat_cmp). set.insert t c.args.source) c.self.view_is

pub returns-in_ok-insert-in-Err-clause-added : goal.returns-in_ok-insert-in-Err-clause-added
returns-in_ok-insert-in-Err-clause-added c =
    let g = gap c.self.inside.numbers.items c.deref.result.now c.in-Err.at c.args.source c.self.invariant c.deref.ensures.value
    c.in-Err.ensures.position in
    sym (ap not (absent c.self.inside.numbers.items c.in-Err.at c.args.source c.args.self.now c.self.view_is g))
