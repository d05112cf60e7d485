use Rattle.std.proofs.Common.{rules, List, ℕ, subst}
use Rattle.std.proofs.lemmas.Result.{IfErr-at_err, IfOk-at_ok, err_from_is_err_and}
use Rattle.jls_io.specs.Event.{GrewBy}
use Rattle.jls_station.specs.Forms.{IsForm}
use Rattle.jls_station.specs.Inputs.{ReadsGive}
use Rattle.jls_station.specs.declared.input.InputForm.{InputForm}
use Rattle.jls_station.specs.declared.input.InputForm.TheVariants.{Text}
use Rattle.jls_station.proofs.Mapped.{error_at, value_at}
use Rattle.jls_salvage_run.specs.AllInputs.{JoinsText, CantJoinText}
use Rattle.jls_cli.specs.Outcomes.{refusal_at}
use Rattle.jls_cli.specs.declared.outcome.Cause.TheVariants.{Input}
use Rattle.jls_salvage_run.proofs.InTurn.{opened_and_refused, not_opened_at_all}
use Rattle.jls_salvage_run.proofs.NextInputs.{given_joined, text_joined, given_stops, text_stops}
use Rattle.jls_salvage_run.proofs.inputs.take_input.Given.{Over}
use Rattle.jls_salvage_run.proofs.inputs.take_input.Goals.{In-Copy, In-Text}
use Rattle.jls_salvage_run.proofs.inputs.take_input.Goals as goal

pub returns-in_err-open-clause-stopped : goal.returns-in_err-open-clause-stopped
returns-in_err-open-clause-stopped g c = λ before h.
    let history = g.D.Device.history in
    let p = err_from_is_err_and c.from_residual.result c.from_residual.ensures.1 in
    let mid = history c.open.new.desk in
    rw (p.1, p.2) (not_opened_at_all c.args.room.now.source (history c.args.desk.now) mid mid c.args.name before c.in_err-open.field-0.0
    c.in_err-open.ensures.refusal c.in_err-open.ensures.not_opened)

pub returns-in_err-form-clause-stopped : goal.returns-in_err-form-clause-stopped
returns-in_err-form-clause-stopped g c = λ before h.
    let history = g.D.Device.history in
    let made = error_at _ (λ fault. refusal_at c.args.name (Input fault)) (λ fault r made. search rules) c.read_form.result c.map_err.result
    c.in_err-form.field-0.0 c.map_err.ensures.cases c.in_err-form.was in
    let refused = IfErr-at_err _ made.2 c.read_form.ensures.refused in
    let p = err_from_is_err_and c.from_residual-in_err-form.result c.from_residual-in_err-form.ensures.1 in
    rw (p.1, p.2, made.1) (opened_and_refused c.args.room.now.source (history c.args.desk.now) (history c.open.new.desk)
    (history c.read_form.new.device) c.args.name made.0 before c.in_ok-open.ensures.opened refused)

-- how the text was read
text_form : (g : Over) (c : In-Text g) → GrewBy (IsForm c.args.room.now.source c.read_form.new.text.items Text)
    (g.D.Device.history c.open.new.desk) (g.D.Device.history c.read_form.new.device)
text_form g c =
    let was = value_at _ c.read_form.result c.map_err.result c.in_ok-form.form c.map_err.ensures.cases c.in_ok-form.was in
    subst (λ (f : InputForm). GrewBy (IsForm c.args.room.now.source c.read_form.new.text.items f) (g.D.Device.history c.open.new.desk)
    (g.D.Device.history c.read_form.new.device)) c.in-Text.is (IfOk-at_ok _ was c.read_form.ensures.form)

-- and the copy
copy_form : (g : Over) (c : In-Copy g) → GrewBy (ReadsGive c.args.room.now.source c.in-Copy.read) (g.D.Device.history c.open.new.desk)
    (g.D.Device.history c.read_form.new.device)
copy_form g c =
    let was = value_at _ c.read_form.result c.map_err.result c.in_ok-form.form c.map_err.ensures.cases c.in_ok-form.was in
    subst (λ (f : InputForm). GrewBy (IsForm c.args.room.now.source c.read_form.new.text.items f) (g.D.Device.history c.open.new.desk)
    (g.D.Device.history c.read_form.new.device)) c.in-Copy.is (IfOk-at_ok _ was c.read_form.ensures.form)

pub returns-in_ok-station-in-Text-clause-joined : goal.returns-in_ok-station-in-Text-clause-joined
returns-in_ok-station-in-Text-clause-joined g c =
    let history = g.D.Device.history in
    text_joined c.args.room.now.source (history c.args.desk.now) (history c.open.new.desk) (history c.read_form.new.device) c.args.name.now
    c.in_ok-open.ensures.opened c.args.held c.in_ok-station-in-Text.station c.read_form.new.text.items
    (text_form g (goal.at.returns-in_ok-station-in-Text-clause-joined g c).In-Text)
    (subst (λ (t : List ℕ). JoinsText c.args.held t c.in_ok-station-in-Text.station) c.deref.ensures.value
    c.in_ok-station-in-Text.ensures.joined)

pub returns-in_err-station-in-Text-clause-stopped : goal.returns-in_err-station-in-Text-clause-stopped
returns-in_err-station-in-Text-clause-stopped g c = λ before h.
    let history = g.D.Device.history in
    let refusal = c.in_err-station-in-Text.field-0.0 in
    let p = err_from_is_err_and c.from_residual-in_err-station-in-Text.result c.from_residual-in_err-station-in-Text.ensures.1 in
    rw (p.1, p.2) (text_stops c.args.room.now.source (history c.args.desk.now) (history c.open.new.desk) (history c.read_form.new.device)
    c.args.name.now c.in_ok-open.ensures.opened c.args.held before h c.read_form.new.text.items refusal
    c.in_err-station-in-Text.ensures.named (text_form g (goal.at.returns-in_err-station-in-Text-clause-stopped g c).In-Text)
    (subst (λ (t : List ℕ). CantJoinText c.args.held t refusal) c.deref.ensures.value c.in_err-station-in-Text.ensures.refused))

pub returns-in_ok-station-in-Copy-clause-joined : goal.returns-in_ok-station-in-Copy-clause-joined
returns-in_ok-station-in-Copy-clause-joined g c =
    let history = g.D.Device.history in
    given_joined c.args.room.now.source (history c.args.desk.now) (history c.open.new.desk) (history c.read_form.new.device) c.args.name.now
    c.in_ok-open.ensures.opened c.args.held c.in_ok-station-in-Copy.station c.is_whole-whole.result c.in-Copy.read
    (copy_form g (goal.at.returns-in_ok-station-in-Copy-clause-joined g c).In-Copy)
    c.in_ok-station-in-Copy.ensures.joined c.is_whole-whole.ensures

pub returns-in_err-station-in-Copy-clause-stopped : goal.returns-in_err-station-in-Copy-clause-stopped
returns-in_err-station-in-Copy-clause-stopped g c = λ before h.
    let history = g.D.Device.history in
    let p = err_from_is_err_and c.from_residual-in_err-station-in-Copy.result c.from_residual-in_err-station-in-Copy.ensures.1 in
    rw (p.1, p.2) (given_stops c.args.room.now.source (history c.args.desk.now) (history c.open.new.desk) (history c.read_form.new.device)
    c.args.name.now c.in_ok-open.ensures.opened c.args.held before h c.in-Copy.read c.in_err-station-in-Copy.field-0.0
    c.in_err-station-in-Copy.ensures.named (copy_form g (goal.at.returns-in_err-station-in-Copy-clause-stopped g c).In-Copy)
    c.in_err-station-in-Copy.ensures.refused)
