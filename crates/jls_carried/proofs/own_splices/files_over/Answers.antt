use Rattle.std.proofs.Common.{◌<◌, ℕ, List, Vec, Global, sym, subst}
use Rattle.std.specs.List.{AllByRecursion}
use Rattle.jls_diff.specs.PartsOf.{bytes_of}
use Rattle.jls_diff.proofs.Slices.{count_of_slices}
use Rattle.jls_search.specs.Choices.{IsWhole}
use Rattle.jls_search.specs.Search.{lists_of}
use Rattle.jls_carried.proofs.own_splices.files_over.Goals as goal

pub search_over-requires-clause-short : goal.search_over-requires-clause-short
search_over-requires-clause-short c =
    let slices = c.args.copies.now in
    (c.parts_can_be_searched.ensures (bytes_of slices) c.args.parts.now c.requires.parts
    (subst (λ n. 0 < n) (sym (count_of_slices slices)) c.requires.some) c.requires.short).1

pub new_files-requires : goal.new_files-requires
new_files-requires c =
    subst (λ (vs : List (Vec ℕ Global)). AllByRecursion (IsWhole c.args.parts.now) (lists_of vs)) (sym c.deref.ensures.value)
    c.in_ok-searched.ensures
