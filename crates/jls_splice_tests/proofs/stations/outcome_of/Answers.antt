use Rattle.std.proofs.Common.{◌<◌, List, length, sym, subst, rules, Vec, Global, ℕ}
use Rattle.std.specs.Prelude.{IsTrue}
use Rattle.std.specs.List.{AllByRecursion}
use Rattle.jls_diff.specs.PartsOf.{parts_of}
use Rattle.jls_search.specs.Choices.{IsWhole}
use Rattle.jls_search.specs.Faultless.{IsSought}
use Rattle.jls_search.specs.Search.{IsShort, lists_of}
use Rattle.jls_search.proofs.FilesOfSearch.{whole_of_found, short_of_found}
use Rattle.jls_splice_tests.proofs.stations.outcome_of.Goals as goal

pub settle_files-requires-clause-whole : goal.settle_files-requires-clause-whole
settle_files-requires-clause-whole c =
    let found = c.in_ok-found.found in
    subst (λ (vs : List (Vec ℕ Global)). AllByRecursion (IsWhole found.0) (lists_of vs)) (sym c.deref.ensures.value)
    (whole_of_found (IsSought found.1.ceiling) found.0 (lists_of found.1.splices.items) c.in_ok-found.ensures.searched.files)

pub settle_files-requires-clause-short : goal.settle_files-requires-clause-short
settle_files-requires-clause-short c =
    let some : 0 < length c.args.copies.now = search rules in
    let yes : IsTrue c.are_short.result = search rules in
    short_of_found c.parts_can_be_searched.ensures c.args.copies.now c.in_ok-found.found.0 c.in_ok-found.ensures.parts some
    (c.are_short.ensures.0 yes)
