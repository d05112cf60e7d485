use Rattle.std.proofs.Common.{rules}
use Rattle.std.proofs.lemmas.Result.{err_from_is_err_and}
use Rattle.jls_write.specs.Pnm.{pnm}
use Rattle.jls_salvage_run.specs.WritingFiles.{cut_refusal}
use Rattle.jls_cli.proofs.OutputSteps.{not_created_at_all}
use Rattle.jls_station.proofs.Mapped.{error_so}
use Rattle.jls_salvage_run.proofs.Written.{cut_after}
use Rattle.jls_salvage_run.proofs.writing.hand_out_pnm.Goals as goal

pub returns-in_err-create-clause-stopped : goal.returns-in_err-create-clause-stopped
returns-in_err-create-clause-stopped g c =
    let desk = g.D.Device.history in
    let p = err_from_is_err_and c.from_residual.result c.from_residual.ensures.1 in
    rw (p.1, p.2) (not_created_at_all (desk c.args.desk.now) (desk c.create.new.desk) c.args.name (pnm c.args.picture.now)
    c.in_err-create.field-0.0 c.in_err-create.ensures.refusal c.in_err-create.ensures.not_created)

pub returns-clause-stopped : goal.returns-clause-stopped
returns-clause-stopped g c =
    let desk = g.D.Device.history in
    error_so _ (λ fault. cut_refusal c.args.name fault) (λ fault r made. search rules) c.write_pnm.result c.map_err.result _ _
    (λ fault h. cut_after fault (desk c.args.desk.now) (desk c.create.new.desk) (desk c.write_pnm.new.sink) c.args.name
    (pnm c.args.picture.now) _ _ c.in_ok-create.ensures.created h)
    c.map_err.ensures.cases c.write_pnm.ensures.prefix
