-- The laws of the code of a piece, by line or by sample.
use Rattle.std.specs.Prelude.{◌≡◌, ℕ, ◌<◌, ◌↔◌, Bool, List, [], ◌∷◌, ◌++◌}
use Rattle.jls_values.specs.Params.{AreCodingParameters}
use Rattle.jls_interval.specs.Lines.{AreLines}
use Rattle.jls_piece.specs.Lines.{PieceShape, AreOfWholeRows}
use Rattle.jls_piece.specs.Code.{piece_code}
use Rattle.jls_piece.specs.Reads.{BeginsWithCode, Reads, IsLong, IsBroken}

-- of the codes of two different lists of lines, of one shape, neither begins the other
abbrev pub CodesAreApart : Type 0
CodesAreApart =
    (i : PieceShape) → AreCodingParameters i.params → 0 < i.width
    → (xs ys : List (List ℕ)) (s t : List Bool) → AreLines i.params i.width i.line_count xs → AreOfWholeRows i xs
    → AreLines i.params i.width i.line_count ys → AreOfWholeRows i ys
    → piece_code i xs ++ s ≡ piece_code i ys ++ t → (xs ≡ ys) × (s ≡ t)

-- the code of first lines begins the code of all
abbrev pub FirstCodesBegin : Type 0
FirstCodesBegin =
    (i : PieceShape) (first others : List (List ℕ)) → AreOfWholeRows i first
    → (tail : List Bool) × (piece_code i (first ++ others) ≡ piece_code i first ++ tail)

-- the code of some lines, at least one, has a bit
abbrev pub CodesHaveBits : Type 0
CodesHaveBits =
    (i : PieceShape) → 0 < i.width → 0 < i.components → 0 < i.line_count
    → (lines : List (List ℕ)) → AreLines i.params i.width i.line_count lines → AreOfWholeRows i lines → piece_code i lines ≡ [] → ⊥

-- a piece reads as at most one list of lines, and then it isn't too long
abbrev pub PiecesReadOnce : Type 0
PiecesReadOnce =
    (i : PieceShape) → AreCodingParameters i.params → 0 < i.width → (piece : List ℕ) (xs : List (List ℕ)) → Reads i piece xs
    → ((ys : List (List ℕ)) → Reads i piece ys → xs ≡ ys) × (IsLong i piece → ⊥)

-- a piece is broken if and only if it doesn't begin with the code of any lines
abbrev pub BrokenBeginsWithNone : Type 0
BrokenBeginsWithNone =
    (i : PieceShape) (piece : List ℕ)
    → IsBroken i piece ↔ ((lines : List (List ℕ)) (unread : List Bool) → BeginsWithCode i piece lines unread → ⊥)

-- bits that are a proper prefix of the code of some lines
pub record IsCutCode (i : PieceShape) (given : List Bool) : Type 0 where
  pub lines : List (List ℕ)
  pub are_lines : AreLines i.params i.width i.line_count lines
  pub whole_rows : AreOfWholeRows i lines
  pub missing : Bool
  pub more_missing : List Bool
  pub code_is : given ++ missing ∷ more_missing ≡ piece_code i lines
