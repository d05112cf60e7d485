-- Why a piece gives no lines.
use Rattle.std.specs.Prelude.{◌≡◌, ℕ, true, List, Result, Ok, Err}
use Rattle.jls_interval.specs.declared.decode_piece.PieceFault.{PieceFault}
use Rattle.jls_interval.specs.declared.decode_piece.PieceFault.TheVariants.{Long, Broken, OutOfMemory}
use Rattle.jls_pixel.specs.declared.decode.PixelFault.{PixelFault}
use Rattle.jls_pixel.specs.declared.decode.PixelFault.TheVariants as pixel
use Rattle.jls_piece.specs.Lines.{PieceShape}
use Rattle.jls_piece.specs.Reads.{Reads, IsLong, IsBroken}

-- what the answer says of bytes that were all decoded: lines as which they read, that they are too long, or that they are broken. Only by
-- sample can memory be refused then, which says nothing of the bytes
abbrev pub OutcomeIs : PieceShape → List ℕ → Result (List (List ℕ)) PieceFault → Type 0
OutcomeIs i piece (Ok lines) = Reads i piece lines
OutcomeIs i piece (Err Long) = IsLong i piece
OutcomeIs i piece (Err Broken) = IsBroken i piece
OutcomeIs i piece (Err OutOfMemory) = i.by_sample ≡ true

-- inside the crate: a fault of rows as one of lines
abbrev pub line_fault : PixelFault → PieceFault
line_fault pixel.Long = Long
line_fault pixel.Broken = Broken
line_fault pixel.OutOfMemory = OutOfMemory
