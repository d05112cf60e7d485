use Rattle.std.proofs.Common.{◌≡◌, ◌<◌, IfSome, sym, subst, arith}
use Rattle.jls_interval.specs.declared.decode_piece.PieceFault.{PieceFault}
use Rattle.jls_pixel.specs.PixelBytes.{pixels_asked}
use Rattle.jls_piece.specs.Lines.{pixel_piece, lines_of}
use Rattle.jls_piece.specs.CutEnds.{CutEndIs}
use Rattle.jls_piece.specs.declared.cut_end.PieceCutEnd.TheVariants.{Head}
use Rattle.jls_piece.proofs.CutOutcomes.{PixelCutFinishes, whole_cut_finishes, head_cut_finishes}
use Rattle.jls_piece.proofs.piece_decoder.cut_lines.Goals as goal

-- the rows are all there, and are the lines
pub returns-in_ok-finished_lines-in-Whole-clause-cut_end : goal.returns-in_ok-finished_lines-in-Whole-clause-cut_end
returns-in_ok-finished_lines-in-Whole-clause-cut_end c =
    let d = c.args.decoder in let same = c.requires.components in
    let some : 0 < d.components = (let b = c.requires.some in omega arith) in
    let lines = c.in_ok-finished_lines-in-Whole.field-0 in
    let said = subst (PixelCutFinishes d) c.in-Whole.is c.in_ok-rows.ensures.cut_end in
    whole_cut_finishes d some c.in-Whole.rows lines
    (subst (λ n. lines ≡ lines_of n c.in-Whole.rows) same c.in_ok-finished_lines-in-Whole.ensures) said

-- the rows of the head are its lines
pub returns-in_ok-lines-in-Head-clause-cut_end : goal.returns-in_ok-lines-in-Head-clause-cut_end
returns-in_ok-lines-in-Head-clause-cut_end c =
    let d = c.args.decoder in let same = c.requires.components in
    let some : 0 < d.components = (let b = c.requires.some in omega arith) in
    let lines = c.in_ok-lines-in-Head.lines in
    let said = subst (PixelCutFinishes d) c.in-Head.is c.in_ok-rows.ensures.cut_end in
    subst (λ (f : PieceFault). IfSome d.bytes (λ b. CutEndIs (pixel_piece (pixels_asked d)) b (Head lines f))) (sym c.line_fault.ensures)
    (head_cut_finishes d some c.in-Head.rows lines
    (subst (λ n. lines ≡ lines_of n c.in-Head.rows) same c.in_ok-lines-in-Head.ensures) c.in-Head.fault said)
