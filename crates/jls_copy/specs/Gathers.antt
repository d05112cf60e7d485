-- What a reader has kept of the pieces that were whole, all together.
use Rattle.std.specs.Prelude.{◌≡◌, List, [], length, take, Option, Some, None}
use Rattle.jls_values.specs.OrderedSet as set
use Rattle.jls_values.specs.Shape.{PictureShape}
use Rattle.jls_copy.specs.Pieces.{FoundPiece, PieceOutcome, AreOutcomes, readings, records}
use Rattle.jls_copy.specs.Findings.{picture_of}
use Rattle.jls_copy.specs.declared.findings.Findings.{Findings}
use Rattle.jls_partial.specs.Partial.{without_sources}

-- what is kept is what the pieces give, of a picture that has this frame
pub record Gathers (frame : Option PictureShape) (ps : List FoundPiece) (f : Findings) : Type 0 where
  pub outcomes : List PieceOutcome
  pub each : AreOutcomes ps outcomes
  pub picture_is : (shape : PictureShape) → frame ≡ Some shape
      → picture_of shape f.partial ≡ without_sources shape (set.insert_all set.empty (readings ps outcomes))
  pub unframed : frame ≡ None → (ps ≡ []) × (f.partial ≡ None)
  pub records_are : f.records.items ≡ take 4096 (records ps outcomes)
  pub count_is : f.record_count ≡ length (records ps outcomes)
