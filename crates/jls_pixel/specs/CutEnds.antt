-- What a decoder answers of a piece whose end is cut off.
use Rattle.std.specs.Prelude.{ℕ, List}
use Rattle.jls_pixel.specs.Pixels.{PixelShape}
use Rattle.jls_pixel.specs.Reads.{Reads, IsLong, IsBroken}
use Rattle.jls_pixel.specs.Heads.{IsHeadOfPiece}
use Rattle.jls_pixel.specs.declared.cut_end.PixelCutEnd.{PixelCutEnd}
use Rattle.jls_pixel.specs.declared.cut_end.PixelCutEnd.TheVariants.{Whole, Head}
use Rattle.jls_pixel.specs.declared.decode.PixelFault.TheVariants.{Long, Broken, OutOfMemory}

-- what the answer of `finish_cut` says of bytes: rows as which they read. Or that they are too long or broken, and the rows of their head
abbrev pub CutEndIs : PixelShape → List ℕ → PixelCutEnd → Type 0
CutEndIs i piece (Whole rows) = Reads i piece rows
CutEndIs i piece (Head rows Long) = IsLong i piece × IsHeadOfPiece i piece rows
CutEndIs i piece (Head rows Broken) = IsBroken i piece × IsHeadOfPiece i piece rows
CutEndIs i piece (Head rows OutOfMemory) = ⊥
