-- The bits that the lines of a piece are written as (T.87 A.5.3, A.7, B.2).
use Rattle.std.specs.Prelude.{ℕ, Bool, if◌then◌else◌, List}
use Rattle.jls_interval.specs.Code.{code}
use Rattle.jls_pixel.specs.Code.{pixel_code}
use Rattle.jls_piece.specs.Lines.{PieceShape, rows_of}

-- the code of the lines: by sample that of the rows of pixels that they are. It means something for lines as `AreLines` and
-- `AreOfWholeRows` have them (T.87 A.5.3, A.7, B.2)
abbrev pub piece_code : PieceShape → List (List ℕ) → List Bool
piece_code i lines =
    if i.by_sample then pixel_code i.params i.width i.components (rows_of i.width i.components lines)
    else code i.params i.width i.components lines
