use Rattle.std.proofs.Common.{◌≡◌, ℕ, ◌+◌, ◌<◌, List, [], ◌∷◌, length, get_or, ap, sym, ◌∙◌, subst, arith, length-append}
use Rattle.jls_diff.specs.Parts.{Part, Same}
use Rattle.jls_search.specs.Choices.{IsFirstWay, IsPath}
use Rattle.jls_search.proofs.Paths.{path_more}
use Rattle.jls_search.proofs.order.copy_path.Goals as goal

pub loop-place-preserved : goal.loop-place-preserved
loop-place-preserved c =
    let ps : List Part = c.args.parts.now in
    let path : List ℕ = c.loop-place.path.items in
    let choice = c.choice_at.result in
    let inv = c.loop-place.invariant in
    let l : c.loop-place.place < length ps = omega arith in
    let items = c.in_ok-push.ensures.items in
    let count : length c.push.new.self.items ≡ c.loop-place.place + 1 =
    (let a = ap length items ∙ length-append path (choice ∷ []) in let e = inv.1 in omega (arith, a, e)) in (
      subst (IsPath ps) (sym items)
          (path_more ps path choice inv.0 (subst (λ n. n < length ps) (sym inv.1) l)
          (subst (λ n. IsFirstWay (get_or ps n (Same [])) choice) (sym inv.1) c.choice_at.ensures.first)),
      count,
    )
