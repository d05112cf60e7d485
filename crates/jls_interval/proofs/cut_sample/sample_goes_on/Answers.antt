use Rattle.std.proofs.Common.{◌^◌, ap, arith}
use Rattle.jls_values.specs.Params.{limit, qbpp}
use Rattle.jls_bits.specs.CodeState.{bits_fed}
use Rattle.jls_context.specs.Regular.{regular_k}
use Rattle.jls_context.specs.Variables.{cell_at}
use Rattle.jls_interval.specs.Reading.{NoSample}
use Rattle.jls_interval.proofs.CutSamples.{tried_none, tried_more, no_sample}
use Rattle.jls_interval.proofs.cut_sample.sample_goes_on.Goals as goal

pub loop-mapped-init : goal.loop-mapped-init
loop-mapped-init c =
    let p = c.args.coder.now.cells.parameters in let cell = cell_at c.args.coder.now.cells c.args.mode.context in
    tried_none (regular_k cell) (limit p) (qbpp p) (bits_fed (limit p) (qbpp p) c.args.code) (NoSample p cell c.args.neighbours)

pub loop-mapped-preserved : goal.loop-mapped-preserved
loop-mapped-preserved c =
    let p = c.args.coder.now.cells.parameters in let cell = cell_at c.args.coder.now.cells c.args.mode.context in
    tried_more (regular_k cell) (limit p) (qbpp p) (bits_fed (limit p) (qbpp p) c.args.code) (NoSample p cell c.args.neighbours)
    c.loop-mapped.mapped c.loop-mapped.invariant (c.sample_begins.ensures.no c.if-sample_begins.false)

pub returns-clause-no : goal.returns-clause-no
returns-clause-no c = λ _.
    let coder = c.args.coder.now in let p = coder.cells.parameters in let cell = cell_at coder.cells c.args.mode.context in
    no_sample p coder.in_range cell c.args.neighbours c.args.code c.requires.opened c.loop-mapped.mapped
    (let e = c.numbers-mapped-end.ensures in let q = ap (λ z. 2 ^ z) coder.lengths_are.qbpp_is in omega arith) c.loop-mapped.invariant
