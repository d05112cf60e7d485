-- What a decoder answers of a piece whose end is cut off.
use Rattle.std.specs.Prelude.{ℕ, List}
use Rattle.jls_interval.specs.Lines.{IntervalShape}
use Rattle.jls_interval.specs.Reads.{Reads, IsLong, IsBroken}
use Rattle.jls_interval.specs.Heads.{IsHeadOfPiece}
use Rattle.jls_interval.specs.declared.cut_end.CutEnd.{CutEnd}
use Rattle.jls_interval.specs.declared.cut_end.CutEnd.TheVariants.{Whole, Head}
use Rattle.jls_interval.specs.declared.decode_piece.PieceFault.TheVariants.{Long, Broken, OutOfMemory}

-- what the answer of `finish_cut` says of bytes: lines as which they read. Or that they are too long or broken, and the lines of their head
abbrev pub CutEndIs : IntervalShape → List ℕ → CutEnd → Type 0
CutEndIs i piece (Whole lines) = Reads i piece lines
CutEndIs i piece (Head lines Long) = IsLong i piece × IsHeadOfPiece i piece lines
CutEndIs i piece (Head lines Broken) = IsBroken i piece × IsHeadOfPiece i piece lines
CutEndIs i piece (Head lines OutOfMemory) = ⊥
