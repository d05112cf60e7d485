-- Lines that are strictly held: not only those before them in their interval are held, but all that stands before them in the file.
use Rattle.std.specs.Prelude.{◌≡◌, ℕ, ◌+◌, ◌<◌, ◌≤◌, List, [], ◌∷◌, ◌++◌, length}
use Rattle.std.specs.List.{Contains}
use Rattle.jls_partial.specs.Reading.{Reading}
use Rattle.jls_copy.specs.Pieces.{FoundPiece, pieces, PieceOutcome, AreOutcomes, readings, records}
use Rattle.jls_held.specs.MendedFiles.{MendedFile, IsHeldByte}
use Rattle.jls_copy.specs.InHand.{BeginsWithLines}
use Rattle.jls_held.specs.LineCode.{AreCodedTogether}
use Rattle.jls_held.specs.HeldLines.{PieceOf, interval_at, placed_at, HasHeldCode}

-- a byte of the piece stands at this offset
abbrev pub IsIn : FoundPiece → ℕ → Type 0
IsIn p offset = (p.offset ≤ offset) × (offset < p.offset + length p.bytes)

-- all bytes before an offset are held that are in none of these pieces: those of headers and markers
abbrev pub IsHeldOutside : MendedFile → List FoundPiece → ℕ → Type 0
IsHeldOutside f ps end = (offset : ℕ) → offset < end → ((p : FoundPiece) → Contains ps p → IsIn p offset → ⊥) → IsHeldByte f offset

-- what stands before a piece of a file: pieces without a fault, with the lines as which they read, and held bytes outside of them
pub record BeforePiece (f : MendedFile) (p : PieceOf f) : Type 0 where
  pub earlier : List FoundPiece
  pub later : List FoundPiece
  pub pieces_are : pieces p.course ≡ earlier ++ p.piece ∷ later
  pub outcomes : List PieceOutcome
  pub are_outcomes : AreOutcomes earlier outcomes
  pub none_faulty : records earlier outcomes ≡ []
  pub outside : IsHeldOutside f earlier p.piece.offset

-- The reading is strictly held: as `IsHeld`, with two conditions more. Each reading of an earlier piece of the file is strictly
-- held, and so are the bytes before the piece that are in none
pub data IsStrictlyHeld (files : List MendedFile) : Reading → Type 0 where
  in_file : (f : MendedFile) → Contains files f → (p : PieceOf f) → (before lines : List (List ℕ))
      → AreCodedTogether (interval_at f p) lines → BeginsWithLines (interval_at f p) p.piece.bytes (before ++ lines)
      → HasHeldCode f p before lines
      → (w : BeforePiece f p) → ((s : Reading) → Contains (readings w.earlier w.outcomes) s → IsStrictlyHeld files s)
      → ((s : Reading) → Contains (placed_at f p before) s → IsStrictlyHeld files s)
      → (r : Reading) → Contains (placed_at f p (before ++ lines)) r → IsStrictlyHeld files r
