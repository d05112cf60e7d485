-- Two copies without a frame, worked out by hand: the empty one, and SOI alone. They have no shape, the fault that is reported is that of
-- the
-- first one, and they give a station nothing.
use Rattle.std.proofs.Common.{ℕ, List, [], ◌∷◌, None, refl}
use Rattle.std.specs.List.{AllByRecursion}
use Rattle.jls_values.specs.Shape.{PictureShape}
use Rattle.jls_values.proofs.Lists.{all_at}
use Rattle.jls_partial.specs.Partial.{nothing_known}
use Rattle.jls_marker.specs.HeaderState.{no_headers_under}
use Rattle.jls_marker.specs.declared.fault.MarkerFault.TheVariants.{Ended}
use Rattle.jls_marker.specs.declared.profile.Profile.TheVariants.{Wide}
use Rattle.jls_copy.specs.Course.{with_the_input, without_units_under, with_soi, with_fill_alone}
use Rattle.jls_copy.specs.declared.end.End.TheVariants.{Input, Header}
use Rattle.jls_search.specs.Shapes.{HasNoFrame, NoneIsFaultless, IsShapeFound}
use Rattle.jls_search.specs.Stations.{no_file, gives_nothing, TakesFiles}
use Rattle.jls_search.specs.declared.shape_found.ShapeFound.TheVariants.{NoFrame}
use Rattle.jls_search.proofs.OneFile.{no_shape, faultless_shape}

abbrev soi : List ℕ
soi = 0xFF ∷ 0xD8 ∷ []

abbrev copies : List (List ℕ)
copies = [] ∷ soi ∷ []

empty_has_none : HasNoFrame []
empty_has_none = (without_units_under Wide 0 (Header Ended 0), with_fill_alone 0, refl)

soi_has_none : HasNoFrame soi
soi_has_none = (
  without_units_under Wide 2 (Input 2),
  with_soi 0 [] [] (no_headers_under Wide) (Input 2) (refl, with_the_input (no_headers_under Wide) 2),
  refl,
)

no_frames : AllByRecursion HasNoFrame copies
no_frames = (empty_has_none, (soi_has_none, tt))

each_has_a_fault : NoneIsFaultless copies
each_has_a_fault = λ file m f. no_shape f.shape file (all_at HasNoFrame copies file no_frames m) (faultless_shape file f)

no_shape_found : IsShapeFound copies [] (NoFrame Ended 0)
no_shape_found = (each_has_a_fault, no_frames, (without_units_under Wide 0 (Header Ended 0), with_fill_alone 0, refl, refl))

nothing_taken : (shape : PictureShape) → TakesFiles None copies (nothing_known shape) (nothing_known shape)
nothing_taken shape = record {
  given = [];
  give = gives_nothing [] (soi ∷ []) [] (no_shape shape [] empty_has_none)
      (gives_nothing soi [] [] (no_shape shape soi soi_has_none) no_file);
  union_is = refl;
}
