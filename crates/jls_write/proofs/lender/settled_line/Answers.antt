use Rattle.std.proofs.Common.{[], sym, ◌∙◌, arith}
use Rattle.std.proofs.lemmas.Option.{get_or_from_slice_get}
use Rattle.jls_partial.specs.Partial.{readings_at}
use Rattle.jls_partial.proofs.Statuses.{one_reading}
use Rattle.jls_write.proofs.Lending.{line_is, fits_shape}
use Rattle.jls_write.proofs.lender.settled_line.Goals as goal

-- a settled line has a reading
pub reading-requires-clause-i_in : goal.reading-requires-clause-i_in
reading-requires-clause-i_in c =
    let one = one_reading (readings_at c.args.partial.now c.args.component c.args.line)
    (c.requires.settled c.args.component c.requires.component_in c.args.line c.requires.line_in) in
    omega (arith, one)

-- the first reading of a settled line is the line of the picture
pub returns-clause-value : goal.returns-clause-value
returns-clause-value c =
    let p = c.args.partial.now in
    sym (get_or_from_slice_get (readings_at p c.args.component c.args.line) 0 c.reading.result.now [] c.reading.ensures.value)
    ∙ sym (line_is p c.args.component c.args.line c.requires.component_in c.requires.line_in)

pub returns-clause-width : goal.returns-clause-width
returns-clause-width c = (fits_shape c.args.partial.now.shape c.args.component c.args.line c.reading.result.now c.reading.ensures.fitting).0

pub returns-clause-samples : goal.returns-clause-samples
returns-clause-samples c = (fits_shape c.args.partial.now.shape c.args.component c.args.line c.reading.result.now
    c.reading.ensures.fitting).1
