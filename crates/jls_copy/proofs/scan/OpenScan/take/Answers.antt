use Rattle.std.proofs.Common.{ℕ, List, take, ap, arith}
use Rattle.jls_copy.specs.declared.piece.OpenPiece.{OpenPiece}
use Rattle.jls_copy.specs.declared.scan.OpenScan.{OpenScan}
use Rattle.jls_copy.proofs.ScanTakes.{takes_fed, within_fed, beyond_fed}
use Rattle.jls_copy.proofs.scan.OpenScan.take.Goals as goal

-- a stretch is fed to the piece
pub returns-in_ok-push_all-in-Within : goal.returns-in_ok-push_all-in-Within
returns-in_ok-push_all-in-Within c =
    let scan : OpenScan = c.args.self.now in let p = c.in-Within in let count : ℕ = c.stretch_len-count.result in
    let more : List ℕ = take count c.args.bytes.now in
    takes_fed scan _ c.args.bytes.now count c.in-Nothing.is (omega (arith, c.if-count-eq0.false)) c.stretch_len-count.ensures.within
    c.stretch_len-count.ensures.stretch
    (ap (λ (p : OpenPiece). record scan { piece = p })
    (within_fed scan.piece p.field-0 p.decoder c.push_all.new.self more p.is c.in_ok-push_all-in-Within.ensures))

-- the piece has no decoder, and the stretch is passed over
pub returns-in-Beyond : goal.returns-in-Beyond
returns-in-Beyond c =
    let scan : OpenScan = c.args.self.now in let count : ℕ = c.stretch_len-count.result in
    let more : List ℕ = take count c.args.bytes.now in
    takes_fed scan scan c.args.bytes.now count c.in-Nothing.is (omega (arith, c.if-count-eq0.false)) c.stretch_len-count.ensures.within
    c.stretch_len-count.ensures.stretch
    (ap (λ (p : OpenPiece). record scan { piece = p }) (beyond_fed scan.piece c.in-Beyond.field-0 more c.in-Beyond.is))
