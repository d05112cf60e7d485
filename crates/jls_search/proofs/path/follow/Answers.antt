use Rattle.std.proofs.Common.{◌≡◌, ℕ, ◌<◌, List, [], ◌∷◌, ◌++◌, length, sym, ap, ◌∙◌, subst, true, false, inl, inr, rules, arith}
use Rattle.std.proofs.Common.{append_assoc}
use Rattle.std.proofs.lemmas.List.{append-nil}
use Rattle.jls_diff.specs.Parts.{Part, Same}
use Rattle.std.specs.Prelude.{get_or}
use Rattle.jls_search.specs.Choices.{IsFirstWay}
use Rattle.jls_search.specs.Tried.{IsFree, IsSetFor, copy_of}
use Rattle.jls_search.specs.Order.{IsToCome}
use Rattle.jls_search.proofs.Paths.{path_len}
use Rattle.jls_search.proofs.Sets.{TakesCopy, fixed_more, same_choice, set_more, to_come_least}
use Rattle.jls_search.proofs.path.follow.Goals as goal

pub loop-path-init : goal.loop-path-init
loop-path-init c = record {
  set = c.requires.path;
  kept = λ choices whole to_come. to_come;
  grew = ([], sym (append-nil c.args.path.now.items));
  fixed = λ place least less. absurd (omega (arith, least, less));
}

pub fixed_choice-requires-clause-fixed : goal.fixed_choice-requires-clause-fixed
fixed_choice-requires-clause-fixed c =
    let not_free : c.is_free.result ≡ false = search rules in
    subst (λ n. IsFree c.args.parts.now c.args.goal n → ⊥) (c.len-in-loop-path-2.ensures ∙ sym c.len-in-loop-path-3.ensures)
    (c.is_free.ensures.fixed not_free)

pub loop-path-preserved : goal.loop-path-preserved
loop-path-preserved c =
    let ps : List Part = c.args.parts.now in
    let g = c.args.goal in
    let path : List ℕ = c.loop-path.path.items in
    let k : length path < length ps = (let e = c.len.ensures ∙ c.loop-path.path.ok.0 in omega (arith, e, c.loop-path-test.true)) in
    let at = c.len-in-loop-path-3.ensures ∙ c.loop-path.path.ok.0 in
    let here = c.len-in-loop-path-2.ensures ∙ c.loop-path.path.ok.0 in
    let choice = c.fixed_choice.result in
    let not_free : c.is_free.result ≡ false = search rules in
    let out : IsFree ps g (length path) → ⊥ = subst (λ n. IsFree ps g n → ⊥) here (c.is_free.ensures.fixed not_free) in
    let first = subst (λ n. IsFirstWay (get_or ps n (Same [])) choice) at c.fixed_choice.ensures.first in
    let takes = subst (λ n. TakesCopy ps (copy_of g) n choice) at c.fixed_choice.ensures.same in
    record {
      set = subst (IsSetFor ps g) (sym c.in_ok-push.ensures.items)
          (set_more ps g path choice c.loop-path.invariant.set k first (λ _. takes));
      kept = λ choices whole to_come.
          let less : length path < length choices = subst (λ n. length path < n) (sym whole.1) k in
          subst (λ p. IsToCome p choices) (sym c.in_ok-push.ensures.items)
          (to_come_least path choices choice (c.loop-path.invariant.kept choices whole to_come) less
          (λ lower. let e = same_choice ps g choices whole.0 (length path) choice less first takes out in omega (arith, e, lower)));
      grew = (
        c.loop-path.invariant.grew.0 ++ choice ∷ [],
        c.in_ok-push.ensures.items ∙ ap (λ p. p ++ choice ∷ []) c.loop-path.invariant.grew.1
            ∙ append_assoc c.args.path.now.items c.loop-path.invariant.grew.0 (choice ∷ []),
      );
      fixed = fixed_more ps g (length c.args.path.now.items) path c.push.new.self.items choice c.in_ok-push.ensures.items out
          c.loop-path.invariant.fixed;
    }

pub returns-else-not-is_free-clause-stop : goal.returns-else-not-is_free-clause-stop
returns-else-not-is_free-clause-stop c =
    let free : c.is_free.result ≡ true = search rules in
    inl (subst (IsFree c.args.parts.now c.args.goal) (c.len-in-loop-path-2.ensures ∙ c.loop-path.path.ok.0) (c.is_free.ensures.free free))

pub returns-after-loop-path-clause-stop : goal.returns-after-loop-path-clause-stop
returns-after-loop-path-clause-stop c =
    let ps : List Part = c.args.parts.now in
    let most = path_len ps c.loop-path.path.items c.loop-path.invariant.set.0 in
    let e = c.len.ensures ∙ c.loop-path.path.ok.0 in
    inr (omega (arith, most, e, c.loop-path-test.false))
