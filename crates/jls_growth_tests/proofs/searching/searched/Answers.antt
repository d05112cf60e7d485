use Rattle.std.proofs.Common.{ℕ, ◌<◌, List, length, sym, subst}
use Rattle.jls_diff.proofs.Slices.{count_of_slices}
use Rattle.jls_diff.specs.PartsOf.{bytes_of}
use Rattle.jls_search.specs.Faultless.{IsSought}
use Rattle.jls_search.specs.Search.{CameTo, lists_of}
use Rattle.jls_growth_tests.proofs.searching.searched.Goals as goal

pub search-requires-clause-short : goal.search-requires-clause-short
search-requires-clause-short c =
    let copies : List (List ℕ) = bytes_of c.args.copies.now in
    let some : 0 < length copies = subst (λ n. 0 < n) (sym (count_of_slices c.args.copies.now)) c.requires.some_copy in
    (c.parts_can_be_searched.ensures copies c.in_ok-parts.parts c.in_ok-parts.ensures some c.requires.short).1

pub returns-clause-searched : goal.returns-clause-searched
returns-clause-searched c =
    let searched = c.in_ok-searched.searched in
    let e = c.in_ok-searched.ensures in
    subst (λ ceiling. CameTo (IsSought ceiling) c.in_ok-parts.parts (lists_of searched.splices.items) searched.is_used_up) (sym e.ceiling)
    (record { files = e.files; all = e.all })
