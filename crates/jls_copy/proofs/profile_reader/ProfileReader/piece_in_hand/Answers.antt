use Rattle.std.proofs.Common.{ap, map, refl, subst}
use Rattle.std.specs.Prelude.{IfSome}
use Rattle.jls_copy.specs.InHand.{IsInHandUnder}
use Rattle.jls_copy.specs.ReadCopy.{ReaderBytes}
use Rattle.jls_copy.proofs.Gathering.{fed_or_failed}
use Rattle.jls_copy.proofs.PiecesInHand.{in_hand_fed, of_found}
use Rattle.jls_copy.proofs.profile_reader.ProfileReader.piece_in_hand.Goals as goal

-- what the place holds is in hand after the bytes fed
pub returns : goal.returns
returns c =
    let reader = c.self.inside in
    let machine = reader.machine in
    of_found c.piece_in_hand.result _ _
    (λ p holds.
    let lines = map (λ line. line.items) p.lines.items in
    subst (λ (v : ReaderBytes). IfSome v.bytes (λ bytes. IsInHandUnder v.profile bytes p.plan p.interval p.offset lines)) c.self.view_is
    (fed_or_failed reader.failed reader.bytes.list _ (λ bytes. IsInHandUnder reader.profile bytes p.plan p.interval p.offset lines) refl
    (λ open_. let h = c.self.invariant open_ in
    in_hand_fed reader.profile reader.bytes.list h.are_bytes machine.headers.frame machine.payload.items machine.place
    (ap (λ s. s.place) h.state_is) h.place_is p.plan p.interval p.offset lines holds)))
    c.piece_in_hand.ensures
