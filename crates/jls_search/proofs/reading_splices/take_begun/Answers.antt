use Rattle.std.proofs.Common.{◌≡◌, ◌≤◌, List, ℕ, Some, length, take, sym, ap, ◌∙◌, subst, rules}
use Rattle.std.specs.Prelude.{IfSome}
use Rattle.std.specs.List.{AllByRecursion}
use Rattle.jls_values.proofs.Lists.{all_more}
use Rattle.jls_search.specs.Choices.{prefix_of}
use Rattle.jls_search.specs.Search.{IsKeptReader}
use Rattle.jls_search.proofs.reading_splices.take_begun.Goals as goal
use Rattle.jls_search.proofs.reading_splices.take_begun.Goals.{else-loop-test, then-loop-test+in_default}

pub returns-then-starts_with-clause-begun : goal.returns-then-starts_with-clause-begun
returns-then-starts_with-clause-begun c = λ parts all.
    let one = c.in-Some.first in
    let is : IsKeptReader parts one = subst (λ o. IfSome o (IsKeptReader parts)) c.in-Some.is
    (c.take_first.ensures parts (c.loop.invariant parts all)).0 in
    let begins : take c.len-choices.result c.args.path.now ≡ one.choices.items = search rules in
    let within : c.len-choices.result ≤ length c.args.path.now = search rules in
    (within, is ∙ ap (λ (path : List ℕ). Some (prefix_of parts path)) (sym begins))

pub returns-then-starts_with-clause-kept : goal.returns-then-starts_with-clause-kept
returns-then-starts_with-clause-kept c = λ parts all. (c.take_first.ensures parts (c.loop.invariant parts all)).1

pub loop-preserved : goal.loop-preserved
loop-preserved c = λ parts all.
    let one = c.in-Some.first in
    let h = c.take_first.ensures parts (c.loop.invariant parts all) in
    let is : IsKeptReader parts one = subst (λ o. IfSome o (IsKeptReader parts)) c.in-Some.is h.0 in
    subst (AllByRecursion (IsKeptReader parts)) (sym c.in_ok-push.ensures.items)
    (all_more (IsKeptReader parts) c.take_first.new.kept.items one h.1 is)

pub returns-clause-kept : goal.returns-clause-kept
returns-clause-kept c = λ parts all.
    elim c.loop-test.branch [
      | else-loop-test w ↦ subst (λ k. AllByRecursion (IsKeptReader parts) k.items) (sym w.kept-is) (c.loop.invariant parts all)
      | then-loop-test+in_default w ↦ subst (λ k. AllByRecursion (IsKeptReader parts) k.items) (sym w.kept-is)
          (w.take_first.ensures parts (c.loop.invariant parts all)).1
    ]
