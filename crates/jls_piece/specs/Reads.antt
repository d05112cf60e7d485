-- When bytes of scan data read as a piece's lines, and what else they are (T.87 A.1; that at most seven bits may follow, of any value, is
-- this project's choice).
use Rattle.std.specs.Prelude.{ℕ, ◌≤◌, ◌<◌, Bool, List, ◌++◌, length}
use Rattle.std.specs.List.{AllByRecursion}
use Rattle.jls_bits.specs.Bits.{AreDataBits}
use Rattle.jls_bits.specs.Pad.{pad}
use Rattle.jls_interval.specs.Lines.{AreLines}
use Rattle.jls_piece.specs.Lines.{PieceShape, AreOfWholeRows}
use Rattle.jls_piece.specs.Code.{piece_code}

-- the piece is bytes whose data bits are the code of these lines and then some more bits
pub record BeginsWithCode (i : PieceShape) (piece : List ℕ) (lines : List (List ℕ)) (unread : List Bool) : Type 0 where
  pub are_bytes : AllByRecursion (λ x. x < 256) piece
  pub are_lines : AreLines i.params i.width i.line_count lines
  pub whole_rows : AreOfWholeRows i lines
  pub data_bits : AreDataBits piece (piece_code i lines ++ unread)

-- the piece reads as the lines: at most seven bits follow their code
pub record Reads (i : PieceShape) (piece : List ℕ) (lines : List (List ℕ)) : Type 0 where
  pub unread : List Bool
  pub begins : BeginsWithCode i piece lines unread
  pub at_most_seven : length unread ≤ 7

-- the piece is too long: more than seven bits follow the code of some lines
pub record IsLong (i : PieceShape) (piece : List ℕ) : Type 0 where
  pub lines : List (List ℕ)
  pub unread : List Bool
  pub begins : BeginsWithCode i piece lines unread
  pub more_than_seven : 7 < length unread

-- the piece is broken: it neither reads as any lines nor is it too long
pub record IsBroken (i : PieceShape) (piece : List ℕ) : Type 0 where
  pub not_read : (lines : List (List ℕ)) → Reads i piece lines → ⊥
  pub not_long : IsLong i piece → ⊥

-- whatever bytes follow these, they read as no lines
abbrev pub ReadsNoMore : PieceShape → List ℕ → Type 0
ReadsNoMore i bytes = (more : List ℕ) (lines : List (List ℕ)) → Reads i (bytes ++ more) lines → ⊥

-- the bytes that lines are written as: `pad` of their code
abbrev pub packed : PieceShape → List (List ℕ) → List ℕ
packed i lines = pad (piece_code i lines)
