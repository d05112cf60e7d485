use Rattle.jls_values.specs.Params.{limit, qbpp}
use Rattle.jls_bits.specs.CodeState.{bits_fed}
use Rattle.jls_context.specs.Regular.{regular_k}
use Rattle.jls_context.specs.Variables.{cell_at}
use Rattle.jls_interval.specs.Reading.{NoSample}
use Rattle.jls_interval.proofs.CutSamples.{Tried}
use Rattle.jls_interval.proofs.cut_sample.sample_goes_on.Given as goal

-- the numbers below this one were tried, and none can be
abbrev pub invariant-loop-mapped : goal.invariant-loop-mapped
invariant-loop-mapped l =
    let p = l.coder.cells.parameters in let cell = cell_at l.coder.cells l.mode.context in
    Tried (regular_k cell) (limit p) (qbpp p) (bits_fed (limit p) (qbpp p) l.code) (NoSample p cell l.neighbours) l.mapped
