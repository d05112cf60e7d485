-- What a decoder answers of a piece whose end is cut off.
use Rattle.std.specs.Prelude.{ℕ, List}
use Rattle.jls_interval.specs.declared.decode_piece.PieceFault.TheVariants.{Long, Broken, OutOfMemory}
use Rattle.jls_interval.specs.declared.cut_end.CutEnd.{CutEnd as LineCutEnd}
use Rattle.jls_interval.specs.declared.cut_end.CutEnd.TheVariants as line
use Rattle.jls_piece.specs.Lines.{PieceShape}
use Rattle.jls_piece.specs.Reads.{Reads, IsLong, IsBroken}
use Rattle.jls_piece.specs.Heads.{IsHeadOfPiece}
use Rattle.jls_piece.specs.declared.cut_end.PieceCutEnd.{PieceCutEnd}
use Rattle.jls_piece.specs.declared.cut_end.PieceCutEnd.TheVariants.{Whole, Head}

-- what the answer of `finish_cut` says of bytes: lines as which they read. Or that they are too long or broken, and the lines of their head
abbrev pub CutEndIs : PieceShape → List ℕ → PieceCutEnd → Type 0
CutEndIs i piece (Whole lines) = Reads i piece lines
CutEndIs i piece (Head lines Long) = IsLong i piece × IsHeadOfPiece i piece lines
CutEndIs i piece (Head lines Broken) = IsBroken i piece × IsHeadOfPiece i piece lines
CutEndIs i piece (Head lines OutOfMemory) = ⊥

-- inside the crate: the same end, over lines of either kind
abbrev pub cut_of_line : LineCutEnd → PieceCutEnd
cut_of_line (line.Whole lines) = Whole lines
cut_of_line (line.Head lines fault) = Head lines fault
