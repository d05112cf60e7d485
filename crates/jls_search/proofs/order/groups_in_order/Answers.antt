use Rattle.std.proofs.Common.{◌≡◌, ℕ, ◌+◌, List, ◌++◌, take, sym, ap, ◌∙◌, subst, Vec, Global, rules}
use Rattle.std.specs.List.{AllByRecursion}
use Rattle.std.specs.List.Sorted.{IsPermutation}
use Rattle.std.proofs.lemmas.List.Sorted.{IsPermutation-refl}
use Rattle.jls_values.proofs.Lists.{all_more}
use Rattle.jls_diff.specs.Groups.{IsGroup}
use Rattle.jls_diff.specs.declared.group.Group.{Group}
use Rattle.jls_search.proofs.Lists.{all_at, has_copy}
use Rattle.jls_search.proofs.Orders.{one_first, one_other}
use Rattle.jls_search.proofs.order.groups_in_order.Goals as goal
use Rattle.jls_search.proofs.order.groups_in_order.Goals.{then-is_noted+in_ok-push, else-is_noted+in_ok-push-2}

pub returns-then-give_few-clause-groups : goal.returns-then-give_few-clause-groups
returns-then-give_few-clause-groups c =
    let items : c.in_ok-ordered.ordered.items ≡ c.args.groups.now = search rules in
    subst (λ (xs : List Group). AllByRecursion (IsGroup c.args.parts.now) xs) (sym items) c.requires.groups

pub returns-then-give_few-clause-same : goal.returns-then-give_few-clause-same
returns-then-give_few-clause-same c =
    let items : c.in_ok-ordered.ordered.items ≡ c.args.groups.now = search rules in
    subst (λ (xs : List Group). IsPermutation c.args.groups.now xs) (sym items) (IsPermutation-refl c.args.groups.now)

pub with_copy-requires-clause-copy : goal.with_copy-requires-clause-copy
with_copy-requires-clause-copy c = has_copy c.args.copies c.loop-copy.copy c.args.parts.now c.loop-copy-test.true c.requires.ways

abbrev items_of : Vec Group Global → List Group
items_of v = v.items

pub loop-number-preserved : goal.loop-number-preserved
loop-number-preserved c =
    let P : Group → Type 0 = IsGroup c.args.parts.now in
    let gs : List Group = c.args.groups.now in
    let i : ℕ = c.loop-number.number in
    let firsts : List Group = c.loop-number.ordered.items in
    let others : List Group = c.loop-number.others.items in
    let inv = c.loop-number.invariant in
    let l = c.loop-number-test.true in
    elim c.if-is_noted.branch [
      | then-is_noted+in_ok-push w ↦ (
          let a = sym (ap items_of w.ordered-is) in
          let b = sym (ap items_of w.others-is ∙ w.in_ok-push.ensures.items) in
          record {
            ordered = subst (AllByRecursion P) a inv.ordered;
            others = subst (AllByRecursion P) b (all_more P others _ inv.others (all_at P gs _ i l c.requires.groups));
            same =
                subst (λ (xs : List Group). IsPermutation (take (i + 1) gs) (xs ++ items_of c.if-is_noted.others)) a
                (subst (λ (ys : List Group). IsPermutation (take (i + 1) gs) (firsts ++ ys)) b (one_other gs firsts others i _ l inv.same));
          }
          )
      | else-is_noted+in_ok-push-2 w ↦ (
          let a = sym (ap items_of w.ordered-is ∙ w.in_ok-push-2.ensures.items) in
          let b = sym (ap items_of w.others-is) in
          record {
            ordered = subst (AllByRecursion P) a (all_more P firsts _ inv.ordered (all_at P gs _ i l c.requires.groups));
            others = subst (AllByRecursion P) b inv.others;
            same =
                subst (λ (ys : List Group). IsPermutation (take (i + 1) gs) (items_of c.if-is_noted.ordered ++ ys)) b
                (subst (λ (xs : List Group). IsPermutation (take (i + 1) gs) (xs ++ others)) a (one_first gs firsts others i _ l inv.same));
          }
          )
    ]
