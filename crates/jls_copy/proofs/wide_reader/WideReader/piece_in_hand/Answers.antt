use Rattle.std.proofs.Common.{map}
use Rattle.jls_copy.specs.InHand.{IsInHandUnder}
use Rattle.jls_copy.proofs.PiecesInHand.{of_found}
use Rattle.jls_copy.proofs.WideReaders.{widely}
use Rattle.jls_copy.proofs.wide_reader.WideReader.piece_in_hand.Goals as goal

-- what the machine finds in hand holds under the wide profile
pub returns : goal.returns
returns c =
    of_found c.piece_in_hand.result _ _
    (λ found holds.
    let lines = map (λ line. line.items) found.lines.items in
    widely _ _ (λ p bytes. IsInHandUnder p bytes found.plan found.interval found.offset lines) c.self.invariant c.self.view_is holds)
    c.piece_in_hand.ensures
