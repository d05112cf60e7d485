use Rattle.std.proofs.Common.{◌≡◌, Ok, Err, sym, subst}
use Rattle.jls_piece.specs.PieceBytes.{bytes_given}
use Rattle.jls_piece.proofs.Outcomes.{Finishes, line_finishes, pixel_finishes}
use Rattle.jls_piece.proofs.piece_decoder.PieceDecoder.finish.Goals as goal

-- the decoder of lines gives the lines of the piece
pub returns-in-Ok-clause-read : goal.returns-in-Ok-clause-read
returns-in-Ok-clause-read c =
    let view = subst (λ kind. bytes_given kind ≡ c.args.self) c.in-ByLine.is c.self.view_is in
    (subst (λ lines. Finishes c.args.self (Ok lines)) (sym c.by_line.ensures)
    (subst (λ z. Finishes z (Ok c.in-Ok.lines)) view
    (line_finishes c.in-ByLine.decoder (Ok c.in-Ok.lines) c.in-Ok.ensures.outcome c.in-Ok.ensures.read))).1

-- the decoder of lines gives the fault of the piece
pub returns-in-Err-clause-outcome : goal.returns-in-Err-clause-outcome
returns-in-Err-clause-outcome c =
    let view = subst (λ kind. bytes_given kind ≡ c.args.self) c.in-ByLine.is c.self.view_is in
    (subst (λ z. Finishes z (Err c.in-Err.fault)) view
    (line_finishes c.in-ByLine.decoder (Err c.in-Err.fault) c.in-Err.ensures.outcome c.in-Err.ensures.read)).0

-- the decoder of lines gives a fault, and the piece reads as no lines
pub returns-in-Err-clause-read : goal.returns-in-Err-clause-read
returns-in-Err-clause-read c =
    let view = subst (λ kind. bytes_given kind ≡ c.args.self) c.in-ByLine.is c.self.view_is in
    (subst (λ z. Finishes z (Err c.in-Err.fault)) view
    (line_finishes c.in-ByLine.decoder (Err c.in-Err.fault) c.in-Err.ensures.outcome c.in-Err.ensures.read)).1

-- a piece that is interleaved by sample reads as its decoder of pixels does
pub returns-in-BySample-clause-read : goal.returns-in-BySample-clause-read
returns-in-BySample-clause-read c =
    let view = subst (λ kind. bytes_given kind ≡ c.args.self) c.in-BySample.is c.self.view_is in
    (subst (λ z. Finishes z c.read_lines.result) view
    (pixel_finishes c.in-BySample.components c.in-BySample.decoder c.read_lines.result c.read_lines.ensures.outcome
    c.read_lines.ensures.read)).1
