use Rattle.std.proofs.Common.{rules}
use Rattle.std.proofs.lemmas.Result.{err_from_is_err_and}
use Rattle.jls_cli.specs.Outcomes.{refusal_at}
use Rattle.jls_cli.specs.declared.outcome.Cause.TheVariants.{NotWritten}
use Rattle.jls_cli.proofs.OutputSteps.{created_and_cut, not_created_at_all}
use Rattle.jls_station.proofs.Mapped.{error_so}
use Rattle.jls_cli.proofs.output.write_output.Goals as goal

pub returns-in_err-create-clause-stopped : goal.returns-in_err-create-clause-stopped
returns-in_err-create-clause-stopped g c =
    let history = g.D.Device.history in
    let p = err_from_is_err_and c.from_residual.result c.from_residual.ensures.1 in
    rw (p.1, p.2) (not_created_at_all (history c.args.desk.now) (history c.create.new.desk) c.args.name c.args.bytes.now
    c.in_err-create.field-0.0 c.in_err-create.ensures.refusal c.in_err-create.ensures.not_created)

pub returns-clause-stopped : goal.returns-clause-stopped
returns-clause-stopped g c =
    let history = g.D.Device.history in
    error_so _ (λ count. refusal_at c.args.name (NotWritten count)) (λ count r made. search rules) c.write_all.result c.map_err.result _ _
    (λ count h. created_and_cut (history c.args.desk.now) (history c.create.new.desk) (history c.write_all.new.sink) c.args.name
    c.args.bytes.now count c.in_ok-create.ensures.created h)
    c.map_err.ensures.cases c.write_all.ensures.stopped
