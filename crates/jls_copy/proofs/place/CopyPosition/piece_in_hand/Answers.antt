use Rattle.std.proofs.Common.{◌≡◌, arith, false, length, map, rules, subst, sym, vec_len}
use Rattle.std.specs.Prelude.{◌==◌}
use Rattle.jls_copy.proofs.PiecesInHand.{place_holds, some_mapped}
use Rattle.jls_copy.proofs.place.CopyPosition.piece_in_hand.Goals as goal

-- the piece in hand, with the first lines that its decoder answers
pub returns : goal.returns
returns c =
    let found = c.in_ok-lines.lines in
    let lines = map (λ line. line.items) found.items in
    let count : vec_len found ≡ length found.items = search (rules, arith) in
    let some = subst (λ n. (n == 0) ≡ false) count (sym c.if-is_empty.ensures) in
    place_holds c.args.self.now c.in-InScan.scan c.in-Within.interval c.in-Within.decoder c.in_ok-try_clone.field-0 c.to_owned.result lines
    c.in-InScan.is c.in-Within.is c.in_ok-try_clone.ensures c.to_owned.ensures (some_mapped found.items (λ line. line.items) some)
    c.in_ok-lines.ensures
