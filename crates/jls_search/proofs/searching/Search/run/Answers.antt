use Rattle.std.proofs.Common.{◌≡◌, ℕ, Bool, true, List, refl, sym, ◌∙◌, subst, arith, inl, inr}
use Rattle.jls_search.specs.Search.{CanGoOn, IsTry, lists_of, nothing, one_more}
use Rattle.jls_search.specs.declared.searching.Search.{Search}
use Rattle.jls_search.proofs.Steps.{one_at_most, when_on}
use Rattle.jls_search.proofs.Tries.{one_try}
use Rattle.jls_search.proofs.searching.Search.run.Goals as goal

pub overflow_add-self : goal.overflow_add-self
overflow_add-self c = (let can = c.can_go_on.ensures.0 c.loop-alloc-test.true in let below = can.1 in omega (arith, below))

pub try_next-requires-clause-goal : goal.try_next-requires-clause-goal
try_next-requires-clause-goal c = c.loop-alloc.invariant.stands.goal

pub try_next-requires-clause-stands : goal.try_next-requires-clause-stands
try_next-requires-clause-stands c =
    let can = c.can_go_on.ensures.0 c.loop-alloc-test.true in
    let s = c.loop-alloc.self in
    when_on s.judge.ceiling c.args.parts.now s.goal s.path.items (lists_of s.splices.items) s.goes_on can.0
    c.loop-alloc.invariant.stands.goes

pub try_next-requires-clause-kept : goal.try_next-requires-clause-kept
try_next-requires-clause-kept c = c.loop-alloc.invariant.stands.kept

pub loop-alloc-preserved : goal.loop-alloc-preserved
loop-alloc-preserved c =
    let can = c.can_go_on.ensures.0 c.loop-alloc-test.true in
    let below = can.1 in
    let room = can.2 in
    let inv = c.loop-alloc.invariant in
    let s = c.loop-alloc.self in
    let is = c.in_ok-self.ensures in
    let files = inv.files in
    let tries = inv.tries in
    let counted = is.tries in
    let grew = one_at_most s.judge.ceiling c.args.parts.now s.goal s.path.items (lists_of s.splices.items) _ is.step.0 in
    let least = grew.0 in
    let one = one_try c.args.parts.now s _ inv.stands is.alike is.next is.step is.kept room can.0 counted in
    record {
      stands = one.stands;
      alike = (is.alike.0 ∙ inv.alike.0, is.alike.1 ∙ inv.alike.1, is.alike.2 ∙ inv.alike.2);
      tried = one_more c.args.self.now s _ inv.tried one;
      tries = omega (arith, tries, counted);
      files = omega (arith, files, least);
      within = omega (arith, below, counted);
      some = inl (omega (arith, tries, counted));
      found = λ h. is.found (inv.found h);
    }

pub loop-alloc-smaller : goal.loop-alloc-smaller
loop-alloc-smaller c =
    let can = c.can_go_on.ensures.0 c.loop-alloc-test.true in
    let below = can.1 in let counted = c.in_ok-self.ensures.tries in omega (arith, below, counted)

pub returns-clause-stops : goal.returns-clause-stops
returns-clause-stops c = λ can. (let yes = c.can_go_on.ensures.1 can in let no = c.loop-alloc-test.false in absurd cc)

pub returns-clause-went : goal.returns-clause-went
returns-clause-went c =
    let so_far = c.loop-alloc.invariant in
    record {
      tried = so_far.tried;
      tries = so_far.tries;
      files = so_far.files;
      within = so_far.within;
      ceiling = so_far.alike.1;
      some = λ can.
          elim so_far.some [
            | inl more ↦ more
            | inr same ↦ (
                let yes = c.can_go_on.ensures.1 (subst (λ (s : Search). CanGoOn s c.args.most_tries) (sym same) can) in
                let no = c.loop-alloc-test.false in absurd cc)
          ];
    }

pub loop-alloc-init : goal.loop-alloc-init
loop-alloc-init c = record {
  stands = c.requires.stands;
  alike = (refl, refl, refl);
  tried = nothing c.args.self.now;
  tries = omega arith;
  files = omega arith;
  within = omega arith;
  some = inr refl;
  found = λ h. h;
}

pub returns-clause-found : goal.returns-clause-found
returns-clause-found c = λ h. c.loop-alloc.invariant.found h
