use Rattle.std.proofs.Common.{◌≡◌, List, length}
use Rattle.jls_held.specs.MendedFiles.{MendedFile}
use Rattle.jls_held.specs.HeldPictures.{is_among}
use Rattle.jls_held.specs.Chains.{AreChains, ArePlacesKnown, IsHeldPicture}
use Rattle.jls_held.proofs.rounds.take_held.Given as goal

-- the lines before the place of each chain are taken
abbrev pub invariant-loop-round : goal.invariant-loop-round
invariant-loop-round l = record {
  count : length l.places.items ≡ length l.chains;
  shape : l.held.shape ≡ l.fn.held.shape;
  marks : l.held.marks ≡ l.fn.held.marks;
  taken : ArePlacesKnown (is_among l.held) l.chains l.places.items;
  are : (files : List MendedFile) → AreChains files l.chains → IsHeldPicture files l.fn.held → IsHeldPicture files l.held;
}
