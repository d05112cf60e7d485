-- Inside the crate: in which byte of a piece the code of each row by sample ends.
use Rattle.std.specs.Prelude.{◌≡◌, ℕ, ◌+◌, ◌*◌, ◌<◌, ◌≤◌, ◌⊎◌, Bool, List, length, take, get_or}
use Rattle.jls_piece.specs.Lines.{PieceShape}
use Rattle.jls_piece.specs.Reads.{BeginsWithCode, IsBroken}
use Rattle.jls_piece.specs.Heads.{IsHeadOfPiece}

-- So many rows of a piece stand whole in these bytes. It is all rows, if the bytes begin with the code of such. Else the bytes are
-- broken, and it is the rows of their head
abbrev pub HasWholeRows : PieceShape → List ℕ → ℕ → Type 0
HasWholeRows i bytes count =
    ((lines : List (List ℕ)) × (unread : List Bool) × BeginsWithCode i bytes lines unread × (count * i.components ≡ i.line_count))
    ⊎ ((head : List (List ℕ)) × IsBroken i bytes × IsHeadOfPiece i bytes head × (length head ≡ count * i.components))

-- no more than so many rows stand whole in the bytes
abbrev pub HasAtMost : PieceShape → List ℕ → ℕ → Type 0
HasAtMost i bytes most = (count : ℕ) × HasWholeRows i bytes count × (count ≤ most)

-- more than so many rows stand whole in the bytes
abbrev pub HasMore : PieceShape → List ℕ → ℕ → Type 0
HasMore i bytes least = (count : ℕ) × HasWholeRows i bytes count × (least < count)

-- the code of this row ends in the byte at a place: the row stands whole in the bytes up to that one, and not in those before it
pub record EndsInByte (i : PieceShape) (bytes : List ℕ) (row place : ℕ) : Type 0 where
  pub within : place < length bytes
  pub before : HasAtMost i (take place bytes) row
  pub with_it : HasMore i (take (place + 1) bytes) row

-- the first rows end in the bytes at these places, one after another
abbrev pub AreRowEnds : PieceShape → List ℕ → List ℕ → Type 0
AreRowEnds i bytes ends = (row d : ℕ) → row < length ends → EndsInByte i bytes row (get_or ends row d)
