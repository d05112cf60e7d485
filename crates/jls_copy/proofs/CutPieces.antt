-- The last piece of a list, and the piece that the input cut off: at most one. What gives a reading are lines.
use Rattle.std.proofs.Common.{◌≡◌, ◌≤◌, ℕ, Bool, true, false, List, [], ◌∷◌, length, refl, arith}
use Rattle.std.specs.Prelude.{if◌then◌else◌}
use Rattle.std.specs.List.{Contains}
use Rattle.jls_values.proofs.Lists.{none_in}
use Rattle.jls_partial.specs.Reading.{Reading}
use Rattle.jls_marker.specs.Scan.{Scan}
use Rattle.jls_copy.specs.Numbers.{PieceNumber, Interval, BeyondLast}
use Rattle.jls_copy.specs.Course.{Course}
use Rattle.jls_copy.specs.Pieces.{FoundPiece, PieceOutcome, Lines, Fault, outcome_readings, pieces}
use Rattle.jls_copy.specs.CutPieces.{closed_by_input, last_piece, cut_pieces}

pub last_short : (ps : List FoundPiece) → length (last_piece ps) ≤ 1
last_short [] = omega arith
last_short (p ∷ []) = omega arith
last_short (p ∷ q ∷ ps) = last_short (q ∷ ps)

-- the input's end cuts off one piece at most
pub cut_short : (c : Course) → length (cut_pieces c) ≤ 1
cut_short c = by (closed_by_input c.units)
  where
    by : (b : Bool) → length (if b then last_piece (pieces c) else []) ≤ 1
    by true = last_short (pieces c)
    by false = omega arith

-- what gives a reading are lines
pub lines_give : (s : Scan) (n : PieceNumber) (r : Reading) (o : PieceOutcome) → Contains (outcome_readings s n o) r
    → (lines : List (List ℕ)) × (o ≡ Lines lines)
lines_give s n r (Lines lines) m = (lines, refl)
lines_give s (Interval k) r (Fault f) m = absurd (none_in r m)
lines_give s (BeyondLast k) r (Fault f) m = absurd (none_in r m)
