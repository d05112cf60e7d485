use Rattle.std.proofs.Common.{ℕ, ◌<◌, List, length, subst, sym}
use Rattle.std.specs.List.{AllByRecursion}
use Rattle.jls_diff.proofs.Slices.{count_of_slices}
use Rattle.jls_diff.specs.Parts.{HasWays}
use Rattle.jls_diff.specs.PartsOf.{bytes_of}
use Rattle.std.specs.List.Sorted.{IsPermutation}
use Rattle.jls_diff.specs.Groups.{IsGroup}
use Rattle.jls_diff.specs.declared.group.Group.{Group}
use Rattle.jls_search.specs.Search.{lists_of}
use Rattle.jls_search.specs.GroupTries.{AreGroupsSearched}
use Rattle.jls_search.proofs.GroupSearches.{reordered}
use Rattle.jls_search.proofs.group_search.search_groups.Goals as goal

pub groups_in_order-requires-clause-ways : goal.groups_in_order-requires-clause-ways
groups_in_order-requires-clause-ways c =
    subst (λ (n : ℕ). AllByRecursion (HasWays n) c.args.parts.now) (count_of_slices c.args.copies.now) c.requires.parts.ways

pub groups_in_order-requires-clause-short : goal.groups_in_order-requires-clause-short
groups_in_order-requires-clause-short c =
    let copies : List (List ℕ) = bytes_of c.args.copies.now in
    let some : 0 < length copies = subst (λ (n : ℕ). 0 < n) (sym (count_of_slices c.args.copies.now)) c.requires.some_copy in
    (c.parts_can_be_searched.ensures copies c.args.parts.now c.requires.parts some c.requires.short).1

pub groups_in_order-requires-clause-groups : goal.groups_in_order-requires-clause-groups
groups_in_order-requires-clause-groups c =
    subst (AllByRecursion (IsGroup c.args.parts.now)) (sym c.deref.ensures.value) c.in_ok-groups.ensures.groups

pub search_in_turn-requires-clause-ways : goal.search_in_turn-requires-clause-ways
search_in_turn-requires-clause-ways c =
    subst (λ (n : ℕ). AllByRecursion (HasWays n) c.args.parts.now) (count_of_slices c.args.copies.now) c.requires.parts.ways

pub search_in_turn-requires-clause-groups : goal.search_in_turn-requires-clause-groups
search_in_turn-requires-clause-groups c =
    subst (AllByRecursion (IsGroup c.args.parts.now)) (sym c.deref-2.ensures.value) c.in_ok-ordered.ensures.groups

pub search_in_turn-requires-clause-short : goal.search_in_turn-requires-clause-short
search_in_turn-requires-clause-short c =
    let copies : List (List ℕ) = bytes_of c.args.copies.now in
    let some : 0 < length copies = subst (λ (n : ℕ). 0 < n) (sym (count_of_slices c.args.copies.now)) c.requires.some_copy in
    (c.parts_can_be_searched.ensures copies c.args.parts.now c.requires.parts some c.requires.short).1

pub returns-clause-searched : goal.returns-clause-searched
returns-clause-searched c =
    let by = c.in_ok-searched.searched in
    let ps = c.args.parts.now in
    let copies : ℕ = length c.args.copies.now in
    let gs : List Group = c.in_ok-groups.groups.items in
    let hs : List Group = c.in_ok-ordered.ordered.items in
    let same : IsPermutation gs hs = subst (λ xs. IsPermutation xs hs) c.deref.ensures.value c.in_ok-ordered.ensures.same in
    let searched : AreGroupsSearched c.args.most_tries copies ps hs by.tries (lists_of by.splices.items) by.is_used_up =
    subst (λ xs. AreGroupsSearched c.args.most_tries copies ps xs by.tries (lists_of by.splices.items) by.is_used_up)
    c.deref-2.ensures.value c.in_ok-searched.ensures.searched in
    reordered c.args.most_tries copies ps gs hs by.tries (lists_of by.splices.items) by.is_used_up same searched

pub returns-clause-splices : goal.returns-clause-splices
returns-clause-splices c = c.in_ok-searched.ensures.splices.0

pub returns-clause-once : goal.returns-clause-once
returns-clause-once c = c.in_ok-searched.ensures.splices.1
