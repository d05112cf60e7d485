use Rattle.std.proofs.Common.{◌≡◌, ℕ, ◌-◌, false, w32, to_z, of_z, arith, ap, ◌∙◌}
use Rattle.std.specs.Prelude.{ℤ}
use Rattle.std.proofs.lemmas.Int.{ints}
use Rattle.jls_values.specs.Params.{limit, qbpp}
use Rattle.jls_context.specs.declared.interruption.RunCell.{RunCell}
use Rattle.jls_context.specs.Interruption.{run_k, run_updated}
use Rattle.jls_context.specs.Variables.{run_cell_at}
use Rattle.jls_interval.proofs.SamplesRead.{along}
use Rattle.jls_pixel.proofs.SampleSteps.{interrupting_refused, interrupting_no_error, interrupting_read, Code, NoCode}
use Rattle.jls_pixel.proofs.sample.read_interrupting.Goals as goal

pub returns-in-None-clause-refused : goal.returns-in-None-clause-refused
returns-in-None-clause-refused c =
    let coder = c.args.coder.now in let p = coder.cells.parameters in let given = c.args.pending.now in let j = c.args.order in
    interrupting_refused p coder.in_range coder.cells c.args.near given j c.requires.order
    (along (NoCode given) _ _ _ _ _ _ c.run_k.ensures.value (ap (λ z. z - j - 1) coder.lengths_are.limit_is) coder.lengths_are.qbpp_is
    c.in-None.ensures.none)

pub returns-in-None-run_error-clause-refused : goal.returns-in-None-run_error-clause-refused
returns-in-None-run_error-clause-refused c =
    let coder = c.args.coder.now in let p = coder.cells.parameters in let given = c.args.pending.now in let j = c.args.order in
    let m : ℕ = c.in-Some.mapped in let unread = c.read_golomb.new.pending in
    let r : Code given unread m (run_k false (run_cell_at coder.cells false)) (limit p - j - 1) (qbpp p) =
    along (Code given unread m) _ _ _ _ _ _ c.run_k.ensures.value (ap (λ z. z - j - 1) coder.lengths_are.limit_is)
    coder.lengths_are.qbpp_is c.in-Some.ensures.some in
    interrupting_no_error p coder.in_range coder.cells c.args.near given j c.requires.order m unread r.0 r.1
    (λ e is another. c.in-None-run_error.ensures.none e is (λ z. absurd (another z)))

pub returns-in-Some-run_error-clause-read : goal.returns-in-Some-run_error-clause-read
returns-in-Some-run_error-clause-read c =
    let coder = c.args.coder.now in let p = coder.cells.parameters in let given = c.args.pending.now in let j = c.args.order in
    let m : ℕ = c.in-Some.mapped in let unread = c.read_golomb.new.pending in
    let cell : RunCell = run_cell_at coder.cells false in
    let r : Code given unread m (run_k false cell) (limit p - j - 1) (qbpp p) =
    along (Code given unread m) _ _ _ _ _ _ c.run_k.ensures.value (ap (λ z. z - j - 1) coder.lengths_are.limit_is)
    coder.lengths_are.qbpp_is c.in-Some.ensures.some in
    let e : ℤ = c.in-Some-run_error.error in let same : to_z w32 (of_z w32 e) ≡ e = omega (arith, ints) in
    let u = c.update_run.ensures in
    interrupting_read p coder.in_range coder.cells c.args.near given j c.requires.order m unread r.0 r.1 c.restore-value.result e
    c.update_run.new.self c.in-Some-run_error.ensures.mapped (c.restore-value.ensures.error ∙ same) u.regular u.parameters
    (u.updated ∙ ap (run_updated p.reset false cell) same)
