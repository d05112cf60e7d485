use Rattle.std.proofs.Common.{ℕ, ◌<◌, List, [], ◌∷◌, ◌++◌, length, sym, ◌∙◌, subst}
use Rattle.jls_diff.specs.Parts.{Part, Same}
use Rattle.std.specs.Prelude.{get_or}
use Rattle.jls_search.specs.Choices.{IsFirstWay}
use Rattle.jls_search.proofs.Paths.{after_longer, after_more, next_after, turned}
use Rattle.jls_search.specs.Tried.{IsSetFor, IsTried}
use Rattle.jls_search.specs.Order.{IsLater, IsToCome}
use Rattle.jls_search.proofs.Sets.{after_last, last_takes, none_after, set_back, set_more}
use Rattle.jls_search.proofs.path.backtrack.Goals as goal

pub next_choice-requires : goal.next_choice-requires
next_choice-requires c =
    let ps : List Part = c.args.parts.now in
    let rest : List ℕ = c.pop.new.self.items in
    let back = set_back ps c.args.goal rest c.in-Some.choice
    (subst (IsSetFor ps c.args.goal) c.in-Some.ensures.items c.loop-choice.invariant.set) in
    let at = c.len.ensures ∙ c.pop.new.self.ok.0 in
    record {
      place = subst (λ n. n < length c.args.parts.now) (sym at) (back.1);
      first = subst (λ n. IsFirstWay (get_or ps n (Same [])) c.in-Some.choice) (sym at) back.2;
    }

pub follow-requires-clause-path : goal.follow-requires-clause-path
follow-requires-clause-path c =
    let ps : List Part = c.args.parts.now in
    let rest : List ℕ = c.pop.new.self.items in
    let back = set_back ps c.args.goal rest c.in-Some.choice
    (subst (IsSetFor ps c.args.goal) c.in-Some.ensures.items c.loop-choice.invariant.set) in
    let at = c.len.ensures ∙ c.pop.new.self.ok.0 in
    let next = c.in-Some-next_choice.next in
    let tried = subst (λ n. IsTried c.args.goal n) at c.in-Some-next_choice.ensures.tried in
    subst (IsSetFor ps c.args.goal) (sym c.in_ok-push.ensures.items)
    (set_more ps c.args.goal rest next back.0 back.1
    (subst (λ n. IsFirstWay (get_or ps n (Same [])) next) at c.in-Some-next_choice.ensures.first)
    (λ out. absurd (out tried)))

pub returns-in-Some-next_choice-clause-to_come : goal.returns-in-Some-next_choice-clause-to_come
returns-in-Some-next_choice-clause-to_come c = λ _ choices whole after.
    let ps : List Part = c.args.parts.now in
    let rest : List ℕ = c.pop.new.self.items in
    let at = c.len.ensures ∙ c.pop.new.self.ok.0 in
    let next = c.in-Some-next_choice.next in
    let here : IsLater (rest ++ c.in-Some.choice ∷ []) choices =
    subst (λ p. IsLater p choices) c.in-Some.ensures.items (c.loop-choice.invariant.after choices whole after) in
    c.in_ok-follow.ensures.kept choices whole
    (subst (λ p. IsToCome p choices) (sym c.in_ok-push.ensures.items)
    (turned ps rest choices c.in-Some.choice next
    (subst (λ n. (other : ℕ) → c.in-Some.choice < other → other < next → IsFirstWay (get_or ps n (Same [])) other → ⊥) at
    c.in-Some-next_choice.ensures.between)
    whole.0.0 here))

pub loop-choice-init : goal.loop-choice-init
loop-choice-init c = record { set = c.requires.path; after = λ choices whole after. after; back = λ next after. after }

pub loop-choice-preserved : goal.loop-choice-preserved
loop-choice-preserved c =
    let ps : List Part = c.args.parts.now in
    let g = c.args.goal in
    let rest : List ℕ = c.pop.new.self.items in
    let p = c.in-Some.choice in
    let set : IsSetFor ps g (rest ++ p ∷ []) = subst (IsSetFor ps g) c.in-Some.ensures.items c.loop-choice.invariant.set in
    let back = set_back ps g rest p set in
    let at = c.len.ensures ∙ c.pop.new.self.ok.0 in
    record {
      set = back.0;
      after = λ choices whole after.
          after_last rest choices p
          (λ l. none_after ps g choices whole.0 (length rest) p l back.2 (last_takes ps g rest p set)
          (subst (λ n. IsTried g n → (other : ℕ) → p < other → IsFirstWay (get_or ps n (Same [])) other → ⊥) at
          c.in_default-next_choice.ensures.none))
          (subst (λ q. IsLater q choices) c.in-Some.ensures.items (c.loop-choice.invariant.after choices whole after));
      back = λ next after.
          c.loop-choice.invariant.back next (subst (λ q. IsLater q next) (sym c.in-Some.ensures.items) (after_longer rest p next after));
    }

pub returns-in-Some-next_choice-clause-after : goal.returns-in-Some-next_choice-clause-after
returns-in-Some-next_choice-clause-after c = λ _.
    let rest : List ℕ = c.pop.new.self.items in
    let mid : List ℕ = c.push.new.self.items in
    let more = c.in_ok-follow.ensures.grew in
    let on : IsLater c.args.path.now.items mid =
    c.loop-choice.invariant.back mid (subst (λ p. IsLater p mid) (sym c.in-Some.ensures.items)
    (subst (IsLater (rest ++ c.in-Some.choice ∷ [])) (sym c.in_ok-push.ensures.items)
    (next_after rest c.in-Some.choice c.in-Some-next_choice.next c.in-Some-next_choice.ensures.rises))) in
    subst (IsLater c.args.path.now.items) (sym more.1) (after_more c.args.path.now.items mid more.0 on)
