use Rattle.std.proofs.Common.{◌≡◌, w32, to_z, of_z, arith, ◌∙◌}
use Rattle.std.specs.Prelude.{ℤ}
use Rattle.std.proofs.lemmas.Int.{ints}
use Rattle.jls_context.specs.declared.interruption.RunCell.{RunCell}
use Rattle.jls_context.specs.Variables.{run_cell_at}
use Rattle.jls_interval.specs.Cells.{is_same}
use Rattle.jls_interval.proofs.SamplesRead.{interruption_wrong, interruption_own}
use Rattle.jls_interval.proofs.push_sample.interruption_of.Goals as goal

-- no error is mapped to the number
pub returns-in-None-clause-none : goal.returns-in-None-clause-none
returns-in-None-clause-none c = λ given unread e.
    let p = c.args.coder.now.cells.parameters in let near = c.args.neighbours in
    let cell : RunCell = run_cell_at c.args.coder.now.cells (is_same near) in
    interruption_wrong p c.args.coder.now.in_range cell near c.requires.above c.args.order c.requires.order given c.args.mapped unread
    c.requires.code e c.in-None.ensures.none

-- the sample would be the run's own value
pub returns-then-value-ra-clause-none : goal.returns-then-value-ra-clause-none
returns-then-value-ra-clause-none c = λ given unread e.
    let p = c.args.coder.now.cells.parameters in let near = c.args.neighbours in
    let cell : RunCell = run_cell_at c.args.coder.now.cells (is_same near) in
    let v : ℤ = c.in-Some.error in let same : to_z w32 (of_z w32 v) ≡ v = omega (arith, ints) in let s = c.in-Some.ensures in
    interruption_own p c.args.coder.now.in_range cell near c.requires.above c.args.order c.requires.order given c.args.mapped unread
    c.requires.code e c.restore-value.result v c.restore-value.ensures.sample c.if-value-ra.true (c.restore-value.ensures.error ∙ same)
    s.another s.mapped
