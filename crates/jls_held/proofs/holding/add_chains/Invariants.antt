use Rattle.std.proofs.Common.{List}
use Rattle.std.specs.List.{All, Contains}
use Rattle.std.specs.Vec.Iter.{into_iter_items}
use Rattle.jls_held.specs.MendedFiles.{MendedFile}
use Rattle.jls_held.specs.Mending.{file_of}
use Rattle.jls_held.specs.FilePieces.{IsPieceOf}
use Rattle.jls_held.specs.Chains.{AreChains}
use Rattle.jls_held.proofs.holding.add_chains.Given as goal

-- the chains of the pieces so far are added
abbrev pub invariant-loop-piece : goal.invariant-loop-piece
invariant-loop-piece l = record {
  left : All (IsPieceOf (file_of l.file)) (into_iter_items l.piece-iterator);
  are : (files : List MendedFile) → Contains files (file_of l.file) → AreChains files l.fn.chains.items → AreChains files l.chains.items;
}
