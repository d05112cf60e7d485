use Rattle.std.proofs.Common.{◌≡◌, ◌+◌, ◌-◌, ◌*◌, sym, ◌∙◌, arith}
use Rattle.jls_write.proofs.Sampled.{cut_out, lent_line}
use Rattle.jls_write.proofs.lender.line_of_samples.Goals as goal

-- the slice of the samples is the line
pub returns-clause-value : goal.returns-clause-value
returns-clause-value c =
    let shape = c.args.shape.now in
    let width : c.from-width.result ≡ shape.width = cc in
    let at : c.from.result * c.from-width.result ≡ c.args.line * shape.width = cc in
    let start = c.from.result * c.from-width.result in
    cut_out start (start + c.from-width.result - start) shape.width c.args.line c.component_of-lines.result.now _ at (omega (arith, width))
    c.component_of-lines.ensures.value
    ∙ sym (lent_line shape c.args.samples.now c.args.component c.args.line c.requires.component_in c.requires.line_in)
