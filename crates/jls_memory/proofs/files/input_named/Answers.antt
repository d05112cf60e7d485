use Rattle.std.proofs.Common.{sym}
use Rattle.jls_memory.proofs.Finding.{found_here, not_here}
use Rattle.jls_memory.proofs.files.input_named.Goals as goal

pub returns-then-eq : goal.returns-then-eq
returns-then-eq c =
    found_here c.args.name.now c.args.inputs.now c.loop-input.input-index _ c.loop-input-test.true c.loop-input.invariant
    (sym c.if-eq.ensures)

pub loop-input-preserved : goal.loop-input-preserved
loop-input-preserved c =
    not_here c.args.name.now c.args.inputs.now c.loop-input.input-index _ c.loop-input-test.true c.loop-input.invariant
    (sym c.if-eq.ensures)
