use Rattle.std.proofs.Common.{ℕ, List}
use Rattle.std.specs.List.{All}
use Rattle.std.specs.Vec.Iter.{into_iter_items}
use Rattle.jls_held.specs.FilePieces.{IsTold, HasNoRecord}
use Rattle.jls_held.proofs.file_pieces.without_record.Given as goal

-- the pieces that are kept so far have no record
abbrev pub invariant-loop-piece : goal.invariant-loop-piece
invariant-loop-piece l = record {
  none : All (HasNoRecord l.read) l.kept.items;
  left : (bytes : List ℕ) → All (IsTold bytes) l.fn.told.items → All (IsTold bytes) (into_iter_items l.piece-iterator);
  told : (bytes : List ℕ) → All (IsTold bytes) l.fn.told.items → All (IsTold bytes) l.kept.items;
}
