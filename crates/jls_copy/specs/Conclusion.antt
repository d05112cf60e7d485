-- What a reader answers when the input ends. It concerns no caller.
use Rattle.std.specs.Prelude.{◌≡◌, ℕ, Bool, true, false, List, ◌++◌, length, take, Some, None}
use Rattle.jls_values.specs.OrderedSet as set
use Rattle.jls_values.specs.Shape.{PictureShape}
use Rattle.jls_copy.specs.Pieces.{PieceOutcome}
use Rattle.jls_copy.specs.Pieces.{AreOutcomes, readings, records}
use Rattle.jls_copy.specs.CutPieces.{IsHeadOfCut, head_readings}
use Rattle.jls_copy.specs.Reader.{all_pieces}
use Rattle.jls_copy.specs.ReaderState.{StateWithPieces, end_at, closed_at_end}
use Rattle.jls_copy.specs.ReadCopy.{ReadCopy}
use Rattle.jls_copy.specs.CopyReads.{no_picture}
use Rattle.jls_copy.specs.declared.reader.CopyFault.{CopyFault}
use Rattle.jls_copy.specs.declared.reader.CopyFault.TheVariants.{NoPicture, OutOfMemory}
use Rattle.jls_copy.specs.declared.place.CopyPosition.{CopyPosition}
use Rattle.jls_copy.specs.declared.place.CopyPosition.TheVariants.{Start, AtMarker, AtLength, InLength, InPayload, InScan, Done}
use Rattle.jls_partial.specs.Partial.{without_sources}

-- whether the course ends at a place, whatever bytes follow
abbrev pub is_final : CopyPosition → Bool
is_final (Start fill) = false
is_final (AtMarker fill) = false
is_final (AtLength marker code) = false
is_final (InLength marker code high) = false
is_final (InPayload marker code size) = false
is_final (InScan scan) = false
is_final (Done e) = true

-- the frame's shape, the readings and the records of all pieces, and the end
pub record Concludes (r : StateWithPieces) (read : ReadCopy) : Type 0 where
  pub shape : PictureShape
  pub framed : r.state.headers.frame ≡ Some shape
  pub outcomes : List PieceOutcome
  pub each : AreOutcomes (all_pieces r) outcomes
  pub head : List (List ℕ)
  pub head_is : IsHeadOfCut (closed_at_end r.state.place) head
  pub partial_is : read.partial
      ≡ without_sources shape (set.insert_all set.empty (readings (all_pieces r) outcomes
      ++ head_readings (closed_at_end r.state.place) head))
  pub pieces_are : read.pieces ≡ take 4096 (records (all_pieces r) outcomes)
  pub count_is : read.piece_count ≡ length (records (all_pieces r) outcomes)
  pub ended_is : read.ended ≡ end_at r.state.place r.state.count

-- a reader that took no frame answers this fault
abbrev pub SaysNone : StateWithPieces → CopyFault → Type 0
SaysNone r OutOfMemory = Unit {0}
SaysNone r (NoPicture f offset) = (r.state.headers.frame ≡ None) × (NoPicture f offset ≡ no_picture (end_at r.state.place r.state.count))
