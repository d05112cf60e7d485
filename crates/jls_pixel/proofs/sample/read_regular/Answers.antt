use Rattle.std.proofs.Common.{◌≡◌, ℕ, w32, to_z, of_z, arith, sym, ap, ◌∙◌}
use Rattle.std.specs.Prelude.{ℤ}
use Rattle.std.proofs.lemmas.Int.{ints}
use Rattle.jls_values.specs.Params.{limit, qbpp}
use Rattle.jls_context.specs.declared.regular.Cell.{Cell}
use Rattle.jls_context.specs.Prediction.{edge_detecting_predictor, corrected_prediction}
use Rattle.jls_context.specs.Errors.{prediction_error}
use Rattle.jls_context.specs.Regular.{regular_k, updated}
use Rattle.jls_context.specs.Variables.{cell_at}
use Rattle.jls_interval.specs.Cells.{regular_error}
use Rattle.jls_interval.proofs.SamplesRead.{along}
use Rattle.jls_pixel.proofs.SampleSteps.{regular_refused, regular_no_error, regular_read, Code, NoCode}
use Rattle.jls_pixel.proofs.sample.read_regular.Goals as goal

pub returns-in-None-clause-refused : goal.returns-in-None-clause-refused
returns-in-None-clause-refused c =
    let coder = c.args.coder.now in let p = coder.cells.parameters in let given = c.args.pending.now in
    regular_refused p coder.in_range coder.cells c.args.near given c.regular_mode-context.result.context
    c.regular_mode-context.ensures.context
    (along (NoCode given) _ _ _ _ _ _ c.regular_k.ensures.value coder.lengths_are.limit_is coder.lengths_are.qbpp_is
    c.in-None.ensures.none)

pub returns-in-None-regular_error-clause-refused : goal.returns-in-None-regular_error-clause-refused
returns-in-None-regular_error-clause-refused c =
    let coder = c.args.coder.now in let p = coder.cells.parameters in let given = c.args.pending.now in
    let q : ℕ = c.regular_mode-context.result.context in let m : ℕ = c.in-Some.mapped in let unread = c.read_golomb.new.pending in
    let r : Code given unread m (regular_k (cell_at coder.cells q)) (limit p) (qbpp p) =
    along (Code given unread m) _ _ _ _ _ _ c.regular_k.ensures.value coder.lengths_are.limit_is coder.lengths_are.qbpp_is
    c.in-Some.ensures.some in
    regular_no_error p coder.in_range coder.cells c.args.near given q c.regular_mode-context.ensures.context m unread r.0 r.1
    c.in-None-regular_error.ensures.none

pub returns-in-Some-regular_error-clause-read : goal.returns-in-Some-regular_error-clause-read
returns-in-Some-regular_error-clause-read c =
    let coder = c.args.coder.now in let p = coder.cells.parameters in let given = c.args.pending.now in let near = c.args.near in
    let q : ℕ = c.regular_mode-context.result.context in let m : ℕ = c.in-Some.mapped in let unread = c.read_golomb.new.pending in
    let r : Code given unread m (regular_k (cell_at coder.cells q)) (limit p) (qbpp p) =
    along (Code given unread m) _ _ _ _ _ _ c.regular_k.ensures.value coder.lengths_are.limit_is coder.lengths_are.qbpp_is
    c.in-Some.ensures.some in
    let e : ℤ = c.in-Some-regular_error.error in let same : to_z w32 (of_z w32 e) ≡ e = omega (arith, ints) in
    let cell : Cell = cell_at coder.cells q in let s : ℕ = c.restore-value.result in
    let err : regular_error p cell near s ≡ e =
    ap (λ z. prediction_error p z s (corrected_prediction p z cell.correction (edge_detecting_predictor near.ra near.rb near.rc)))
    (sym c.regular_mode-context.ensures.sign)
    ∙ ap (λ z. prediction_error p c.regular_mode-context.result.negative s z) (sym c.predict-prediction.ensures.value)
    ∙ c.restore-value.ensures.error ∙ same in
    let u = c.update_regular.ensures in
    regular_read p coder.in_range coder.cells near given q c.regular_mode-context.ensures.context m unread r.0 r.1 s e
    c.update_regular.new.self c.in-Some-regular_error.ensures.mapped err u.parameters
    (u.updated ∙ ap (updated p.reset cell) same) u.others u.run_cells
