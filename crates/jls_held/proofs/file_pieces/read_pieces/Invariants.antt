use Rattle.std.proofs.Common.{◌≡◌, ◌-◌, ◌≤◌, length, take, Some}
use Rattle.std.specs.List.{All}
use Rattle.jls_held.specs.FilePieces.{IsTold}
use Rattle.jls_held.proofs.file_pieces.read_pieces.Given as goal

-- the bytes so far were fed
abbrev pub invariant-loop-cut : goal.invariant-loop-cut
invariant-loop-cut l = record {
  within : l.at ≤ length l.bytes;
  fed : l.reader ≡ Some (take l.at l.bytes);
  told : All (IsTold l.bytes) l.told.items;
}

abbrev pub decreases-loop-cut : goal.decreases-loop-cut
decreases-loop-cut l = length l.bytes - l.at
