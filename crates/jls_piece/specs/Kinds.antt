-- What a piece is by line and by sample, in the words of the crates that read intervals by line and by sample.
use Rattle.std.specs.Prelude.{◌≡◌, ℕ, ◌<◌, ◌↔◌, Bool, List}
use Rattle.jls_interval.specs.Lines.{IntervalShape}
use Rattle.jls_interval.specs.Code.{code}
use Rattle.jls_interval.specs.Reads as line
use Rattle.jls_interval.specs.Laws as line_law
use Rattle.jls_interval.specs.Heads as line_head
use Rattle.jls_pixel.specs.Pixels.{PixelShape}
use Rattle.jls_pixel.specs.Reads as pixel
use Rattle.jls_pixel.specs.Heads as pixel_head
use Rattle.jls_piece.specs.Lines.{line_piece, pixel_piece, lines_of}
use Rattle.jls_piece.specs.Code.{piece_code}
use Rattle.jls_piece.specs.Reads.{BeginsWithCode, Reads, IsLong, IsBroken, ReadsNoMore}
use Rattle.jls_piece.specs.Laws.{IsCutCode}
use Rattle.jls_piece.specs.Heads.{BeginsWithFirst, AreWholeLines, IsHead, IsHeadOfPiece}

-- a piece by line is an interval by line: each word says the same of both
pub record IsInterval (i : IntervalShape) : Type 0 where
  pub code_is : (lines : List (List ℕ)) → piece_code (line_piece i) lines ≡ code i.params i.width i.components lines
  pub begins : (piece : List ℕ) (lines : List (List ℕ)) (unread : List Bool)
      → BeginsWithCode (line_piece i) piece lines unread ↔ line.BeginsWithCode i piece lines unread
  pub reads : (piece : List ℕ) (lines : List (List ℕ)) → Reads (line_piece i) piece lines ↔ line.Reads i piece lines
  pub is_long : (piece : List ℕ) → IsLong (line_piece i) piece ↔ line.IsLong i piece
  pub is_broken : (piece : List ℕ) → IsBroken (line_piece i) piece ↔ line.IsBroken i piece
  pub reads_no_more : (bytes : List ℕ) → ReadsNoMore (line_piece i) bytes ↔ line.ReadsNoMore i bytes
  pub is_cut : (given : List Bool) → IsCutCode (line_piece i) given ↔ line_law.IsCutCode i given
  pub begins_with_first : (given : List Bool) (lines first : List (List ℕ))
      → BeginsWithFirst (line_piece i) given lines first ↔ line_head.BeginsWithFirst i given lines first
  pub are_whole : (given : List Bool) (lines whole : List (List ℕ))
      → AreWholeLines (line_piece i) given lines whole ↔ line_head.AreWholeLines i given lines whole
  pub is_head : (given : List Bool) (head : List (List ℕ)) → IsHead (line_piece i) given head ↔ line_head.IsHead i given head
  pub is_head_of_piece : (piece : List ℕ) (head : List (List ℕ))
      → IsHeadOfPiece (line_piece i) piece head ↔ line_head.IsHeadOfPiece i piece head

-- by line nothing changes
abbrev pub LinePiecesAreIntervals : Type 0
LinePiecesAreIntervals = (i : IntervalShape) → IsInterval i

-- a piece by sample is an interval by sample: what is said of lines is said of the rows of pixels that they are
pub record IsPixelInterval (i : PixelShape) : Type 0 where
  pub reads : (piece : List ℕ) (lines : List (List ℕ))
      → Reads (pixel_piece i) piece lines
      ↔ ((rows : List (List (List ℕ))) × pixel.Reads i piece rows × (lines ≡ lines_of i.components rows))
  pub is_long : (piece : List ℕ) → IsLong (pixel_piece i) piece ↔ pixel.IsLong i piece
  pub is_broken : (piece : List ℕ) → IsBroken (pixel_piece i) piece ↔ pixel.IsBroken i piece
  pub reads_no_more : (bytes : List ℕ) → ReadsNoMore (pixel_piece i) bytes ↔ pixel.ReadsNoMore i bytes
  pub is_cut : (given : List Bool) → IsCutCode (pixel_piece i) given ↔ pixel_head.IsCutCode i given
  pub is_head : (given : List Bool) (lines : List (List ℕ))
      → IsHead (pixel_piece i) given lines
      ↔ ((rows : List (List (List ℕ))) × pixel_head.IsHead i given rows × (lines ≡ lines_of i.components rows))
  pub is_head_of_piece : (piece : List ℕ) (lines : List (List ℕ))
      → IsHeadOfPiece (pixel_piece i) piece lines
      ↔ ((rows : List (List (List ℕ))) × pixel_head.IsHeadOfPiece i piece rows × (lines ≡ lines_of i.components rows))

-- each piece by sample is so
abbrev pub PixelPiecesAreIntervals : Type 0
PixelPiecesAreIntervals = (i : PixelShape) → 0 < i.components → IsPixelInterval i
