use Rattle.std.proofs.Common.{◌≡◌}
use Rattle.jls_bad.specs.ListText.{lines}
use Rattle.jls_bad.proofs.ListLines.{AreRead, are_empty}
use Rattle.jls_bad.proofs.lists.places_in.Given as goal

abbrev pub invariant-loop-at : goal.invariant-loop-at
invariant-loop-at l = AreRead l.fn.text l.places.items l.at × (l.is_first ≡ are_empty l.at (lines l.fn.text))
