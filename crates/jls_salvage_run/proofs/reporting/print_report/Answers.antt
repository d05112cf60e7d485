use Rattle.std.proofs.Common.{◌≡◌, ◌∙◌, rules, refl, subst}
use Rattle.std.proofs.lemmas.Result.{IfOk-at_ok, err_from_is_err_and}
use Rattle.std.specs.Prelude.{◌↔◌, IsTrue}
use Rattle.jls_partial.specs.Partial.{PartialPicture}
use Rattle.jls_partial.specs.Status.{IsSettled}
use Rattle.jls_salvage_run.specs.Reporting.{lines}
use Rattle.jls_cli.specs.Outcomes.{refusal_at}
use Rattle.jls_cli.specs.declared.outcome.Cause.TheVariants.{OutOfMemory}
use Rattle.jls_station.proofs.Mapped.{error_at, value_at}
use Rattle.jls_salvage_run.proofs.Reported.{reported_at_input, reported_for_memory, reported, reported_in_part}
use Rattle.jls_salvage_run.proofs.reporting.print_report.Goals as goal

pub returns-in_err-input : goal.returns-in_err-input
returns-in_err-input g c =
    let desk = g.D.Device.history in
    let report = g.W.Device.history c.args.report.now in
    let p = err_from_is_err_and c.from_residual.result c.from_residual.ensures.1 in
    rw (p.1, p.2) (reported_at_input (lines c.args.traced) c.args.file.now (desk c.args.desk.now) (desk c.open_and_read.new.desk) report
    report c.in_err-input.field-0.0 c.in_err-input.ensures.named c.in_err-input.ensures.stopped)

pub returns-in_err-text : goal.returns-in_err-text
returns-in_err-text g c =
    let desk = g.D.Device.history in
    let report = g.W.Device.history c.args.report.now in
    let made = error_at _ (λ _. refusal_at c.args.file OutOfMemory) (λ e r made. search rules) c.lines_of.result c.map_err.result
    c.in_err-text.field-0.0 c.map_err.ensures.cases c.in_err-text.was in
    let p = err_from_is_err_and c.from_residual-in_err-text.result c.from_residual-in_err-text.ensures.1 in
    rw (p.1, p.2, made.1) (reported_for_memory (lines c.args.traced) c.args.file.now (desk c.args.desk.now) (desk c.open_and_read.new.desk)
    report report c.in_ok-input.input c.in_ok-input.ensures.taken c.args.file refl)

pub returns-in-Ok : goal.returns-in-Ok
returns-in-Ok g c =
    let desk = g.D.Device.history in
    let report = g.W.Device.history in
    let text = c.in_ok-text.text in
    let is : text.items ≡ lines c.args.traced c.in_ok-input.input =
    IfOk-at_ok _ (value_at _ c.lines_of.result c.map_err.result text c.map_err.ensures.cases c.in_ok-text.was) c.lines_of.ensures in
    let settled = subst (λ (p : PartialPicture). IsTrue c.is_settled.result ↔ IsSettled p) c.partial.ensures c.is_settled.ensures in
    reported (lines c.args.traced) c.args.file.now (desk c.args.desk.now) (desk c.open_and_read.new.desk) (report c.args.report.now)
    (report c.write_all.new.sink) c.in_ok-input.input c.in_ok-input.ensures.taken
    c.is_settled.result c.is_whole.result c.deref.result.now (c.deref.ensures.value ∙ is)
    (record { settled_is = settled; whole_is = c.is_whole.ensures }) c.in-Ok.ensures.written

pub returns : goal.returns
returns g c =
    let desk = g.D.Device.history in
    let report = g.W.Device.history in
    let text = c.in_ok-text.text in
    let is : text.items ≡ lines c.args.traced c.in_ok-input.input =
    IfOk-at_ok _ (value_at _ c.lines_of.result c.map_err.result text c.map_err.ensures.cases c.in_ok-text.was) c.lines_of.ensures in
    reported_in_part (lines c.args.traced) c.args.file.now (desk c.args.desk.now) (desk c.open_and_read.new.desk) (report c.args.report.now)
    (report c.write_all.new.sink) c.in_ok-input.input c.in_ok-input.ensures.taken
    _ c.in-Err.count c.deref.result.now (c.deref.ensures.value ∙ is) refl c.in-Err.ensures.stopped
