use Rattle.std.specs.Prelude.{◌-◌}
use Rattle.jls_values.specs.Params.{limit, qbpp}
use Rattle.jls_bits.specs.CodeState.{bits_fed}
use Rattle.jls_context.specs.Interruption.{run_k}
use Rattle.jls_context.specs.Variables.{run_cell_at}
use Rattle.jls_interval.specs.Cells.{is_same}
use Rattle.jls_interval.specs.Reading.{NoInterruption}
use Rattle.jls_interval.proofs.CutSamples.{Tried}
use Rattle.jls_interval.proofs.cut_sample.interruption_goes_on.Given as goal

-- the numbers below this one were tried, and none can be
abbrev pub invariant-loop-mapped : goal.invariant-loop-mapped
invariant-loop-mapped l =
    let p = l.coder.cells.parameters in let near = l.neighbours in let cell = run_cell_at l.coder.cells (is_same near) in
    let g = limit p - l.order - 1 in
    Tried (run_k (is_same near) cell) g (qbpp p) (bits_fed g (qbpp p) l.code) (NoInterruption p cell near l.order) l.mapped
