use Rattle.std.proofs.Common.{◌≡◌, ℕ, List, Vec, Global, refl, sym, ap, ◌∙◌, subst, arith}
use Rattle.std.specs.Cmp.Lexicographic.{same_text, other_text}
use Rattle.std.proofs.lemmas.List.{take_all}
use Rattle.jls_search.proofs.Members.{all_one_more}
use Rattle.jls_search.proofs.GroupSights.{NoneIs, found_at, not_found}
use Rattle.jls_search.proofs.adding.is_found.Goals as goal

abbrev items_of : Vec ℕ Global → List ℕ
items_of v = v.items

pub returns-then-eq : goal.returns-then-eq
returns-then-eq c = (
  λ _. found_at c.args.path.now c.args.found.now c.loop-number.number c.index-found-number.result c.loop-number-test.true
      (ap items_of (sym c.index-found-number.is) ∙ sym c.as_slice.ensures.value ∙ same_text _ _ c.if-eq.ensures),
  λ _. refl,
)

pub loop-number-preserved : goal.loop-number-preserved
loop-number-preserved c =
    all_one_more (λ (v : Vec ℕ Global). v.items ≡ c.args.path.now → ⊥) c.args.found.now c.loop-number.number c.index-found-number.result
    c.loop-number.invariant c.loop-number-test.true
    (λ e. other_text _ _ c.if-eq.ensures (c.as_slice.ensures.value ∙ ap items_of c.index-found-number.is ∙ e))

pub returns : goal.returns
returns c =
    let end = c.loop-number-test.false in (
      λ t. absurd cc,
      λ among. absurd (not_found c.args.path.now c.args.found.now
          (subst (NoneIs c.args.path.now) (take_all c.loop-number.number c.args.found.now (omega (arith, end))) c.loop-number.invariant)
          among),
    )
