use Rattle.std.proofs.Common.{◌≡◌, sym, subst}
use Rattle.jls_piece.specs.CutEnds.{cut_of_line}
use Rattle.jls_piece.specs.PieceBytes.{bytes_given}
use Rattle.jls_piece.proofs.CutOutcomes.{CutFinishes, line_cut_finishes}
use Rattle.jls_piece.proofs.piece_decoder.PieceDecoder.finish_cut.Goals as goal

-- a piece that is not interleaved by sample ends as its decoder of lines does
pub returns-in_ok-finish_cut-in-ByLine-clause-cut_end : goal.returns-in_ok-finish_cut-in-ByLine-clause-cut_end
returns-in_ok-finish_cut-in-ByLine-clause-cut_end c =
    let view = subst (λ kind. bytes_given kind ≡ c.args.self) c.in-ByLine.is c.self.view_is in
    let end = c.in_ok-finish_cut-in-ByLine.field-0 in
    subst (CutFinishes c.args.self) (sym c.line_cut_end.ensures)
    (subst (λ z. CutFinishes z (cut_of_line end)) view
    (line_cut_finishes c.in-ByLine.decoder end c.in_ok-finish_cut-in-ByLine.ensures.cut_end))
