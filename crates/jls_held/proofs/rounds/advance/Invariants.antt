use Rattle.std.proofs.Common.{◌≡◌, List}
use Rattle.jls_held.specs.MendedFiles.{MendedFile}
use Rattle.jls_held.specs.HeldPictures.{is_among}
use Rattle.jls_held.specs.Chains.{IsChain, AreFirstKnown, AreKept, IsHeldPicture}
use Rattle.jls_held.proofs.rounds.advance.Given as goal

-- the lines of the chain before this one are taken
abbrev pub invariant-loop-at : goal.invariant-loop-at
invariant-loop-at l = record {
  shape : l.held.shape ≡ l.fn.held.shape;
  marks : l.held.marks ≡ l.fn.held.marks;
  kept : AreKept l.fn.held l.held;
  taken : AreFirstKnown (is_among l.fn.held) l.chain l.from → AreFirstKnown (is_among l.held) l.chain l.at;
  are : (files : List MendedFile) → IsChain files l.chain → AreFirstKnown (is_among l.fn.held) l.chain l.from
      → IsHeldPicture files l.fn.held → IsHeldPicture files l.held;
}
