use Rattle.std.proofs.Common.{◌≡◌, List}
use Rattle.jls_held.specs.MendedFiles.{MendedFile}
use Rattle.jls_held.specs.HeldPictures.{is_among}
use Rattle.jls_held.specs.Chains.{AreChains, ArePlacesKnown, AreKept, IsHeldPicture}
use Rattle.jls_held.proofs.rounds.advance_each.Given as goal

-- the lines before the place of each chain are taken
abbrev pub invariant-loop-i : goal.invariant-loop-i
invariant-loop-i l = record {
  shape : l.held.shape ≡ l.fn.held.shape;
  marks : l.held.marks ≡ l.fn.held.marks;
  kept : AreKept l.fn.held l.held;
  taken : ArePlacesKnown (is_among l.fn.held) l.chains l.fn.places → ArePlacesKnown (is_among l.held) l.chains l.places;
  are : (files : List MendedFile) → AreChains files l.chains → ArePlacesKnown (is_among l.fn.held) l.chains l.fn.places
      → IsHeldPicture files l.fn.held → IsHeldPicture files l.held;
}
