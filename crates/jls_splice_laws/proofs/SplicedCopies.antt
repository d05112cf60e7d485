-- What the files of searched copies settle.
use Rattle.std.proofs.Common.{ℕ, List, ◌++◌}
use Rattle.jls_marker.specs.declared.profile.Profile.TheVariants.{Wide}
use Rattle.jls_search.specs.Search.{files_of}
use Rattle.jls_splice_laws.specs.SpliceLaws.{SearchedSplicesGiveNoOther}
use Rattle.jls_splice_laws.specs.SplicingLaws.{under, SplicedCopiesGiveNoOther}
use Rattle.jls_splice_laws.proofs.HeldFiles.{files_alone, files_are_held, took_alone}

pub spliced_copies_give_no_other : SearchedSplicesGiveNoOther → SplicedCopiesGiveNoOther
spliced_copies_give_no_other never ceiling copies parts source station w pic is file whole within splice settled =
    let files : List (List ℕ) = files_of parts w.found in
    let held = files_are_held source w.shape (copies ++ files) station w.takes in
    (never ceiling copies parts w.found w.shape held.taken (record {
      some_copy = w.some_copy;
      are_parts = w.are_parts;
      came_to = w.searched;
      shape_is = w.shape_is;
      of_shape = held.of_shape;
    }) pic is file whole within splice).1.wide station
    (under source held.taken, took_alone Wide station (under source held.taken) held.read, files_alone source held.taken) settled
