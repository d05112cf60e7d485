use Rattle.std.proofs.Common.{◌≡◌, subst}
use Rattle.std.proofs.Common.{arith}
use Rattle.jls_piece.specs.PieceBytes.{bytes_given, HasComponents}
use Rattle.jls_piece.proofs.Outcomes.{SaysNoMore, line_no_more, pixel_no_more}
use Rattle.jls_piece.proofs.piece_decoder.PieceDecoder.reads_no_more.Goals as goal

pub returns-in-ByLine : goal.returns-in-ByLine
returns-in-ByLine c = λ h.
    let view = subst (λ kind. bytes_given kind ≡ c.args.self.now) c.in-ByLine.is c.self.view_is in
    subst SaysNoMore view (line_no_more c.in-ByLine.decoder (c.reads_no_more.ensures h))

-- by sample: the bytes read as no rows, whatever follows
pub returns-in-BySample : goal.returns-in-BySample
returns-in-BySample c = λ h.
    let view = subst (λ kind. bytes_given kind ≡ c.args.self.now) c.in-BySample.is c.self.view_is in
    let some = subst HasComponents c.in-BySample.is c.self.invariant in
    let d = c.in-BySample.decoder in
    subst SaysNoMore view
    (pixel_no_more c.in-BySample.field-0 d (let a = some.0 in let b = some.1 in omega arith)
    (c.reads_no_more-in-BySample.ensures h))
