-- When bytes of scan data read as an interval's rows, and what else they are (T.87 A.1). That at most seven bits may follow, of any
-- value, is this project's choice.
use Rattle.std.specs.Prelude.{ℕ, ◌≤◌, ◌<◌, Bool, List, ◌++◌, length}
use Rattle.std.specs.List.{AllByRecursion}
use Rattle.jls_values.specs.Params.{CodingParameters}
use Rattle.jls_bits.specs.Bits.{AreDataBits}
use Rattle.jls_bits.specs.Pad.{pad}
use Rattle.jls_pixel.specs.Pixels.{PixelShape, AreRows}
use Rattle.jls_pixel.specs.Code.{pixel_code}

-- the piece is bytes whose data bits are the code of these rows and then some more bits
pub record BeginsWithCode (i : PixelShape) (piece : List ℕ) (rows : List (List (List ℕ))) (unread : List Bool) : Type 0 where
  pub are_bytes : AllByRecursion (λ x. x < 256) piece
  pub are_rows : AreRows i.params i.width i.components i.row_count rows
  pub data_bits : AreDataBits piece (pixel_code i.params i.width i.components rows ++ unread)

-- the piece reads as the rows: at most seven bits follow their code
pub record Reads (i : PixelShape) (piece : List ℕ) (rows : List (List (List ℕ))) : Type 0 where
  pub unread : List Bool
  pub begins : BeginsWithCode i piece rows unread
  pub at_most_seven : length unread ≤ 7

-- the piece is too long: more than seven bits follow the code of some rows
pub record IsLong (i : PixelShape) (piece : List ℕ) : Type 0 where
  pub rows : List (List (List ℕ))
  pub unread : List Bool
  pub begins : BeginsWithCode i piece rows unread
  pub more_than_seven : 7 < length unread

-- the piece is broken: it neither reads as any rows nor is it too long
pub record IsBroken (i : PixelShape) (piece : List ℕ) : Type 0 where
  pub not_read : (rows : List (List (List ℕ))) → Reads i piece rows → ⊥
  pub not_long : IsLong i piece → ⊥

-- whatever bytes follow these, they read as no rows
abbrev pub ReadsNoMore : PixelShape → List ℕ → Type 0
ReadsNoMore i bytes = (more : List ℕ) (rows : List (List (List ℕ))) → Reads i (bytes ++ more) rows → ⊥

-- the bytes that rows are written as: `pad` of their `pixel_code`
abbrev pub packed_pixels : CodingParameters → ℕ → ℕ → List (List (List ℕ)) → List ℕ
packed_pixels p width components rows = pad (pixel_code p width components rows)
