use Rattle.std.proofs.Common.{None, [], rules}
use Rattle.std.proofs.lemmas.Result.{err_from_is_err_and}
use Rattle.jls_cli.specs.Outcomes.{refusal_at}
use Rattle.jls_cli.specs.declared.outcome.Cause.TheVariants.{Input}
use Rattle.jls_salvage_run.proofs.InTurn.{opened_and_given, opened_and_refused, not_opened_at_all}
use Rattle.jls_station.proofs.Mapped.{error_so, value_so}
use Rattle.jls_salvage_run.proofs.inputs.open_and_read.Goals as goal

pub returns-in_err-open-clause-stopped : goal.returns-in_err-open-clause-stopped
returns-in_err-open-clause-stopped g c =
    let history = g.D.Device.history in
    let new = history c.open.new.desk in
    let p = err_from_is_err_and c.from_residual.result c.from_residual.ensures.1 in
    rw (p.1, p.2) (not_opened_at_all None (history c.args.desk.now) new new c.args.name [] c.in_err-open.field-0.0
    c.in_err-open.ensures.refusal c.in_err-open.ensures.not_opened)

pub returns-clause-taken : goal.returns-clause-taken
returns-clause-taken g c =
    let history = g.D.Device.history in
    value_so _ c.read_input.result c.map_err.result _ _
    (λ given h. opened_and_given None (history c.args.desk.now) (history c.open.new.desk) (history c.read_input.new.device) c.args.name.now
    given c.in_ok-open.ensures.opened h)
    c.map_err.ensures.cases c.read_input.ensures.given

pub returns-clause-stopped : goal.returns-clause-stopped
returns-clause-stopped g c =
    let history = g.D.Device.history in
    error_so _ (λ fault. refusal_at c.args.name (Input fault)) (λ fault r made. search rules) c.read_input.result c.map_err.result _ _
    (λ fault h. opened_and_refused None (history c.args.desk.now) (history c.open.new.desk) (history c.read_input.new.device) c.args.name
    fault [] c.in_ok-open.ensures.opened h)
    c.map_err.ensures.cases c.read_input.ensures.refused
