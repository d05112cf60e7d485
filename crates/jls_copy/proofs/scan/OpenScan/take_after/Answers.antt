use Rattle.std.proofs.Common.{ℕ, get_or, ap, ◌∙◌}
use Rattle.jls_copy.specs.ReaderState.{piece_with}
use Rattle.jls_copy.specs.declared.piece.OpenPiece.{OpenPiece}
use Rattle.jls_copy.specs.declared.scan.ByteClass.TheVariants.{Data}
use Rattle.jls_copy.specs.declared.scan.Held.TheVariants.{Nothing}
use Rattle.jls_copy.specs.declared.scan.OpenScan.{OpenScan}
use Rattle.jls_copy.proofs.ScanTakes.{takes_data, class_one, within_fed}
use Rattle.jls_copy.proofs.scan.OpenScan.take_after.Goals as goal

-- the FF bytes and the byte are fed to the piece
pub returns-in_ok-push_all-in-Within : goal.returns-in_ok-push_all-in-Within
returns-in_ok-push_all-in-Within c =
    let scan : OpenScan = c.args.self.now in let b : ℕ = get_or c.args.bytes.now 0 0 in let p = c.in-Within in
    let piece = within_fed scan.piece p.field-0 p.decoder c.push_all.new.self c.args.fed.now p.is c.in_ok-push_all-in-Within.ensures in
    takes_data scan _ c.args.bytes.now c.requires.some (class_one scan.held b Data c.requires.held c.in-Data.ensures.class)
    (ap (λ (p : OpenPiece). record scan { held = Nothing; piece = p }) (piece ∙ ap (piece_with scan.piece) c.requires.fed))
