use Rattle.std.proofs.Common.{◌-◌, ◌^◌, ap, arith}
use Rattle.jls_values.specs.Params.{limit, qbpp}
use Rattle.jls_bits.specs.CodeState.{bits_fed}
use Rattle.jls_context.specs.Interruption.{run_k}
use Rattle.jls_context.specs.Variables.{run_cell_at}
use Rattle.jls_interval.specs.Cells.{is_same}
use Rattle.jls_interval.specs.Reading.{NoInterruption}
use Rattle.jls_interval.proofs.CutSamples.{tried_none, tried_more, no_interruption}
use Rattle.jls_interval.proofs.cut_sample.interruption_goes_on.Goals as goal

pub loop-mapped-init : goal.loop-mapped-init
loop-mapped-init c =
    let p = c.args.coder.now.cells.parameters in let near = c.args.neighbours in
    let cell = run_cell_at c.args.coder.now.cells (is_same near) in let g = limit p - c.args.order - 1 in
    tried_none (run_k (is_same near) cell) g (qbpp p) (bits_fed g (qbpp p) c.args.code) (NoInterruption p cell near c.args.order)

-- one number more was tried, and can't be
pub loop-mapped-preserved : goal.loop-mapped-preserved
loop-mapped-preserved c =
    let p = c.args.coder.now.cells.parameters in let near = c.args.neighbours in
    let cell = run_cell_at c.args.coder.now.cells (is_same near) in let g = limit p - c.args.order - 1 in
    tried_more (run_k (is_same near) cell) g (qbpp p) (bits_fed g (qbpp p) c.args.code) (NoInterruption p cell near c.args.order)
    c.loop-mapped.mapped c.loop-mapped.invariant (c.interruption_begins.ensures.no c.if-interruption_begins.false)

-- all numbers were tried, and none can be
pub returns-clause-no : goal.returns-clause-no
returns-clause-no c = λ _.
    let coder = c.args.coder.now in let p = coder.cells.parameters in let near = c.args.neighbours in
    let cell = run_cell_at coder.cells (is_same near) in
    no_interruption p coder.in_range cell near c.args.order c.requires.order c.args.code c.requires.opened c.loop-mapped.mapped
    (let e = c.numbers-mapped-end.ensures in let q = ap (λ z. 2 ^ z) coder.lengths_are.qbpp_is in omega arith) c.loop-mapped.invariant
