-- Why a piece gives no rows.
use Rattle.std.specs.Prelude.{ℕ, List}
use Rattle.jls_pixel.specs.Pixels.{PixelShape}
use Rattle.jls_pixel.specs.Reads.{IsLong, IsBroken}
use Rattle.jls_pixel.specs.declared.decode.PixelFault.{PixelFault}
use Rattle.jls_pixel.specs.declared.decode.PixelFault.TheVariants.{Long, Broken, OutOfMemory}

-- which of these a fault of `decode_pixels` says; `OutOfMemory` says nothing of the piece
abbrev pub FaultIs : PixelFault → PixelShape → List ℕ → Type 0
FaultIs Long i piece = IsLong i piece
FaultIs Broken i piece = IsBroken i piece
FaultIs OutOfMemory i piece = Unit {0}
