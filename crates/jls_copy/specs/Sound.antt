-- What a place meets: the last number and that of the open piece are numbers of intervals.
use Rattle.std.specs.Prelude.{◌≡◌, ℕ, ◌+◌, ◌<◌, ◌^◌, List, length, Option, Some}
use Rattle.jls_values.specs.Shape.{PictureShape}
use Rattle.jls_marker.specs.Scan.{Scan, IsScanOf, intervals, row_count}
use Rattle.jls_piece.specs.PieceBytes.{PieceBytes}
use Rattle.jls_copy.specs.declared.piece.OpenPiece.{OpenPiece}
use Rattle.jls_copy.specs.declared.piece.OpenPiece.TheVariants.{Within, Beyond}
use Rattle.jls_copy.specs.declared.scan.OpenScan.{OpenScan}
use Rattle.jls_copy.specs.declared.place.CopyPosition.{CopyPosition}
use Rattle.jls_copy.specs.declared.place.CopyPosition.TheVariants.{Start, AtMarker, AtLength, InLength, InPayload, InScan, Done}

-- the decoder is that of its interval, and no push was refused
pub record IsDecodingOf (s : Scan) (k : ℕ) (d : PieceBytes) : Type 0 where
  pub within : k < intervals s
  pub parameters_are : d.parameters ≡ s.params
  pub width_is : d.width ≡ s.width
  pub components_are : d.components ≡ length s.components
  pub rows_are : d.rows ≡ row_count s k
  pub by_sample_is : d.by_sample ≡ s.by_sample
  pub bytes : List ℕ
  pub bytes_are : d.bytes ≡ Some bytes

-- the decoder of an open piece is that of its interval, and the number of a piece beyond the last interval has 17 bits
abbrev pub IsOpenPiece : Scan → OpenPiece → Type 0
IsOpenPiece s (Within k d) = IsDecodingOf s k d
IsOpenPiece s (Beyond k) = k < 2 ^ 17

-- the last number given is that of an interval of the scan, and the open piece meets `IsOpenPiece`
abbrev pub IsOpenScan : OpenScan → Type 0
IsOpenScan scan = (scan.last < intervals scan.plan) × IsOpenPiece scan.plan scan.piece

-- a scan of the frame that was taken
abbrev pub IsOfFrame : Option PictureShape → Scan → Type 0
IsOfFrame frame s = (shape : PictureShape) × (frame ≡ Some shape) × IsScanOf shape s

-- a payload that isn't whole, or a scan of the frame
abbrev pub IsPlace : Option PictureShape → CopyPosition → List ℕ → Type 0
IsPlace frame (Start fill) payload = Unit {0}
IsPlace frame (AtMarker fill) payload = Unit {0}
IsPlace frame (AtLength marker code) payload = Unit {0}
IsPlace frame (InLength marker code high) payload = Unit {0}
IsPlace frame (InPayload marker code size) payload = length payload + 2 < size
IsPlace frame (InScan scan) payload = IsOpenScan scan × IsOfFrame frame scan.plan
IsPlace frame (Done e) payload = Unit {0}
