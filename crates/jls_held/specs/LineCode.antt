-- Where the code of lines stands in a piece of scan data: which bytes carry bits of it.
use Rattle.std.specs.Prelude.{◌≡◌, ℕ, ◌+◌, ◌<◌, if◌then◌else◌, List, ◌++◌, length, take}
use Rattle.jls_bits.specs.Bits.{bits_read}
use Rattle.jls_piece.specs.Lines.{PieceShape}
use Rattle.jls_piece.specs.Code.{piece_code}

-- how many bits the code of an interval's first lines has. By sample it means something for whole rows only (T.87 A.5.3, A.7)
abbrev pub code_length : PieceShape → List (List ℕ) → ℕ
code_length i lines = length (piece_code i lines)

-- how many data bits so many first bytes of a piece carry: a byte after FF carries seven, each other byte eight (T.87 A.1)
abbrev pub bits_before : List ℕ → ℕ → ℕ
bits_before piece place = length (bits_read (take place piece))

-- lines that are coded together: by line it is one line, by sample it is the lines of a row (T.87 B.2)
abbrev pub AreCodedTogether : PieceShape → List (List ℕ) → Type 0
AreCodedTogether i lines = length lines ≡ (if i.by_sample then i.components else 1)

-- The byte at this place of a piece carries a bit of the code of lines. The code of the lines before them stands before it (T.87 A.1)
pub record IsByteOf (i : PieceShape) (piece : List ℕ) (before lines : List (List ℕ)) (place : ℕ) : Type 0 where
  pub within : place < length piece
  pub begins_before_its_end : bits_before piece place < code_length i (before ++ lines)
  pub ends_after_its_begin : code_length i before < bits_before piece (place + 1)
