use Rattle.std.proofs.Common.{◌<◌, List, length, map}
use Rattle.std.specs.List.{Contains}
use Rattle.std.specs.Vec.Iter.{into_iter_items}
use Rattle.jls_held.specs.MendedFiles.{MendedFile}
use Rattle.jls_held.specs.Mending.{file_of}
use Rattle.jls_held.specs.FilePieces.{lines_of}
use Rattle.jls_held.specs.Chains.{IsChain}
use Rattle.jls_held.proofs.PieceChains.{IsSoFar}
use Rattle.jls_held.proofs.chain.chain_of.Given as goal

-- the lines so far are a chain, and the next one follows them
abbrev pub invariant-loop-samples : goal.invariant-loop-samples
invariant-loop-samples l = record {
  so : IsSoFar l.plan l.interval (lines_of l.fn.piece) l.chain.items (map (λ v. v.items) (into_iter_items l.samples-iterator)) l.row l.place;
  place_in : l.place < length l.plan.components;
  are : (files : List MendedFile) → Contains files (file_of l.file) → IsChain files l.chain.items;
}
