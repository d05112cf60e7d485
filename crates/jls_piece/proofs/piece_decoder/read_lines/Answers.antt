use Rattle.std.proofs.Common.{◌≡◌, ◌<◌, Err, sym, subst, arith}
use Rattle.jls_interval.specs.declared.decode_piece.PieceFault.{PieceFault}
use Rattle.jls_pixel.specs.PixelBytes.{pixels_asked}
use Rattle.jls_piece.specs.Lines.{lines_of}
use Rattle.jls_piece.proofs.Outcomes.{Outcome, Found, rows_outcome, rows_found, fault_outcome, fault_found}
use Rattle.jls_piece.proofs.piece_decoder.read_lines.Goals as goal

-- the rows have a fault, and so has the piece
pub returns-in-Err-clause-outcome : goal.returns-in-Err-clause-outcome
returns-in-Err-clause-outcome c =
    let d = c.args.decoder in let i = pixels_asked d in
    let some : 0 < d.components = (let a = c.requires.components in let b = c.requires.some in omega arith) in
    subst (λ (f : PieceFault). Outcome i d.bytes (Err f)) (sym c.line_fault.ensures)
    (fault_outcome i some d.bytes c.in-Err.fault c.in-Err.ensures.refused c.in-Err.ensures.fault)

-- the rows have a fault, so the piece reads as no lines
pub returns-in-Err-clause-read : goal.returns-in-Err-clause-read
returns-in-Err-clause-read c =
    let d = c.args.decoder in let i = pixels_asked d in
    let some : 0 < d.components = (let a = c.requires.components in let b = c.requires.some in omega arith) in
    subst (λ (f : PieceFault). Found i d.bytes (Err f)) (sym c.line_fault.ensures)
    (fault_found i some d.bytes c.in-Err.fault c.in-Err.ensures.read)

-- the rows are there, and are the lines
pub returns-in-Ok-finished_lines-clause-outcome : goal.returns-in-Ok-finished_lines-clause-outcome
returns-in-Ok-finished_lines-clause-outcome c =
    let d = c.args.decoder in let i = pixels_asked d in let same = c.requires.components in
    let some : 0 < d.components = (let b = c.requires.some in omega arith) in
    rows_outcome i some d.bytes c.in-Ok.rows c.in-Ok-finished_lines.lines
    (subst (λ n. c.in-Ok-finished_lines.lines ≡ lines_of n c.in-Ok.rows) same c.in-Ok-finished_lines.ensures)
    c.in-Ok.ensures.refused c.in-Ok.ensures.rows

-- the rows are there, and are the lines as which the piece reads
pub returns-in-Ok-finished_lines-clause-read : goal.returns-in-Ok-finished_lines-clause-read
returns-in-Ok-finished_lines-clause-read c =
    let d = c.args.decoder in let i = pixels_asked d in let same = c.requires.components in
    let some : 0 < d.components = (let b = c.requires.some in omega arith) in
    rows_found i some d.bytes c.in-Ok.rows c.in-Ok-finished_lines.lines
    (subst (λ n. c.in-Ok-finished_lines.lines ≡ lines_of n c.in-Ok.rows) same c.in-Ok-finished_lines.ensures)
    c.in-Ok.ensures.read
