use Rattle.std.proofs.Common.{◌≡◌, ◌∙◌, rules, refl, sym, subst}
use Rattle.std.proofs.lemmas.Result.{IfOk-at_ok, err_from_is_err_and}
use Rattle.jls_io.specs.Event.{GrewBy}
use Rattle.jls_partial.specs.Partial.{PartialPicture}
use Rattle.jls_partial.specs.Text.{text}
use Rattle.jls_salvage_run.specs.AllInputs.{names_of, TakesUnion}
use Rattle.jls_cli.specs.Outcomes.{refusal_at}
use Rattle.jls_cli.specs.declared.outcome.Cause.TheVariants.{OutOfMemory}
use Rattle.jls_salvage_run.proofs.JoinSteps.{ends_at_input, ends_for_memory, is_done, ends_at_output}
use Rattle.jls_station.proofs.Mapped.{error_at, value_at}
use Rattle.jls_salvage_run.proofs.joining.join.Given.{Over}
use Rattle.jls_salvage_run.proofs.joining.join.Goals.{After-write_output}
use Rattle.jls_salvage_run.proofs.joining.join.Goals as goal

pub returns-in_err-taken : goal.returns-in_err-taken
returns-in_err-taken g c =
    let history = g.D.Device.history in
    let p = err_from_is_err_and c.from_residual.result c.from_residual.ensures.1 in
    rw (p.1, p.2) (ends_at_input c.args.inputs.source c.args.out.now _ (history c.args.desk.now) (history c.take_inputs.new.desk)
    (history c.take_inputs.new.desk) c.in_err-taken.field-0.0 c.in_err-taken.ensures.stopped)

pub returns-in_err-text : goal.returns-in_err-text
returns-in_err-text g c =
    let history = g.D.Device.history in
    let made = error_at _ (λ _. refusal_at c.args.out OutOfMemory) (λ e r made. search rules) c.to_bytes_in.result c.map_err.result
    c.in_err-text.field-0.0 c.map_err.ensures.cases c.in_err-text.was in
    let p = err_from_is_err_and c.from_residual-in_err-text.result c.from_residual-in_err-text.ensures.1 in
    rw (p.1, p.2, made.1) (ends_for_memory c.args.inputs.source c.args.out.now _ (history c.args.desk.now) (history c.take_inputs.new.desk)
    (history c.take_inputs.new.desk) c.in_ok-taken.taken.0.station c.in_ok-taken.taken.0.whole c.in_ok-taken.ensures.taken c.args.out
    refl)

-- the text is that of what was joined
text_is : (g : Over) (c : After-write_output g) → c.deref.result.now ≡ text c.partial-joined.result.now
text_is g c = c.deref.ensures.value
    ∙ IfOk-at_ok _ (value_at _ c.to_bytes_in.result c.map_err.result c.in_ok-text.text c.map_err.ensures.cases c.in_ok-text.was)
    c.to_bytes_in.ensures

joined_so : (g : Over) (c : After-write_output g)
    → GrewBy (TakesUnion c.args.inputs.source (names_of c.args.inputs) c.partial-joined.result.now c.in_ok-taken.taken.0.whole)
    (g.D.Device.history c.args.desk.now) (g.D.Device.history c.take_inputs.new.desk)
joined_so g c =
    subst (λ (p : PartialPicture). GrewBy (TakesUnion c.args.inputs.source (names_of c.args.inputs) p c.in_ok-taken.taken.0.whole)
    (g.D.Device.history c.args.desk.now) (g.D.Device.history c.take_inputs.new.desk)) (sym c.partial-joined.ensures)
    c.in_ok-taken.ensures.taken

pub returns : goal.returns
returns g c =
    let history = g.D.Device.history in
    let w = (goal.at.returns g c).After-write_output in
    is_done c.args.inputs.source c.args.out.now (names_of c.args.inputs) (history c.args.desk.now) (history c.take_inputs.new.desk)
    (history c.write_output.new.desk) c.partial-joined.result.now c.in_ok-taken.taken.0.whole (joined_so g w)
    c.is_settled-settled.result c.deref.result.now (text_is g w) c.is_settled-settled.ensures c.in_ok-write_output.ensures.written

pub returns-in_err-write_output : goal.returns-in_err-write_output
returns-in_err-write_output g c =
    let history = g.D.Device.history in
    let w = (goal.at.returns-in_err-write_output g c).After-write_output in
    let p = err_from_is_err_and c.from_residual-in_err-write_output.result c.from_residual-in_err-write_output.ensures.1 in
    rw (p.1, p.2) (ends_at_output c.args.inputs.source c.args.out.now (names_of c.args.inputs) (history c.args.desk.now)
    (history c.take_inputs.new.desk) (history c.write_output.new.desk) c.partial-joined.result.now c.in_ok-taken.taken.0.whole
    (joined_so g w) c.in_err-write_output.field-0.0 c.deref.result.now (text_is g w) c.in_err-write_output.ensures.stopped)
