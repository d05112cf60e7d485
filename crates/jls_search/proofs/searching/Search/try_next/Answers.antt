use Rattle.std.proofs.Common.{◌≡◌, ℕ, List, length, subst}
use Rattle.jls_diff.specs.Parts.{Part}
use Rattle.jls_search.specs.Goals.{IsSeenFor}
use Rattle.jls_search.specs.OfGroups.{IsAddedOnce}
use Rattle.jls_search.specs.Search.{lists_of}
use Rattle.jls_search.specs.declared.looking.PathVerdict.{PathVerdict}
use Rattle.jls_search.specs.declared.looking.PathVerdict.TheVariants.{Found}
use Rattle.jls_search.proofs.Steps.{found_after, turned_on}
use Rattle.jls_search.proofs.searching.Search.try_next.Goals as goal

pub returns-in_ok-add_found-in-Found-clause-next : goal.returns-in_ok-add_found-in-Found-clause-next
returns-in_ok-add_found-in-Found-clause-next c =
    let ceiling = c.args.self.now.judge.ceiling in
    let ps : List Part = c.args.parts.now in
    let g = c.args.self.now.goal in
    let path : List ℕ = c.args.self.now.path.items in
    let next : List ℕ = c.backtrack.new.path.items in
    let old : List (List ℕ) = lists_of c.args.self.now.splices.items in
    let new : List (List ℕ) = lists_of c.add_found.new.found.items in
    let seen : IsSeenFor ceiling ps g path (Found c.in-Found.reader) =
    subst (λ (s : PathVerdict). IsSeenFor ceiling ps g path s) c.in-Found.is
    (subst (λ p. IsSeenFor ceiling ps g p c.in_ok-sight.sight) c.deref.ensures.value c.in_ok-sight.ensures) in
    let adds : IsAddedOnce old path new =
    subst (λ p. IsAddedOnce old p new) c.deref-in-Found-2.ensures.value c.in_ok-add_found-in-Found.ensures in
    turned_on ceiling ps g path next old c.requires.stands new (found_after ceiling ps g path next old c.requires.stands new adds seen.0)
    c.backtrack.result c.backtrack.ensures.path c.backtrack.ensures.stop c.backtrack.ensures.to_come c.backtrack.ensures.none
