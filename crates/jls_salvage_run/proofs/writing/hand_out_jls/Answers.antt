use Rattle.std.proofs.Common.{◌≡◌, ◌∙◌, true, false, rules, sym}
use Rattle.std.proofs.lemmas.Result.{err_from_is_err_and}
use Rattle.jls_write.specs.WrittenFile.{written_file}
use Rattle.jls_write.specs.Options.{OptionsFit}
use Rattle.jls_salvage_run.specs.WritingFiles.{cut_refusal}
use Rattle.jls_cli.proofs.OutputSteps.{not_created_at_all}
use Rattle.jls_station.proofs.Mapped.{error_so}
use Rattle.jls_salvage_run.proofs.Written.{cut_in_file, stops_before, stopped_by_output}
use Rattle.jls_salvage_run.proofs.writing.hand_out_jls.Goals as goal

pub returns-then-not-fits-clause-stopped : goal.returns-then-not-fits-clause-stopped
returns-then-not-fits-clause-stopped g c =
    let F = OptionsFit c.args.picture.now c.args.options.now in
    let no : F → ⊥ = λ fit. let e : true ≡ false = sym (c.fits.ensures.1 fit) ∙ c.if-not-fits.true in absurd cc in
    stops_before F (F → ⊥) true no (g.D.Device.history c.args.desk.now) c.args.name (written_file c.args.picture.now c.args.options.now)

pub returns-in_err-create-clause-stopped : goal.returns-in_err-create-clause-stopped
returns-in_err-create-clause-stopped g c =
    let desk = g.D.Device.history in
    let F = OptionsFit c.args.picture.now c.args.options.now in
    let bytes = written_file c.args.picture.now c.args.options.now in
    let p = err_from_is_err_and c.from_residual.result c.from_residual.ensures.1 in
    rw (p.1, p.2) (stopped_by_output F (F → ⊥) true (c.fits.ensures.0 c.if-not-fits.false) c.in_err-create.field-0.0 (desk c.args.desk.now)
    (desk c.create.new.desk) c.args.name.now bytes
    (not_created_at_all (desk c.args.desk.now) (desk c.create.new.desk) c.args.name bytes c.in_err-create.field-0.0
    c.in_err-create.ensures.refusal c.in_err-create.ensures.not_created))

pub returns-clause-stopped : goal.returns-clause-stopped
returns-clause-stopped g c =
    let desk = g.D.Device.history in
    let F = OptionsFit c.args.picture.now c.args.options.now in
    let bytes = written_file c.args.picture.now c.args.options.now in
    error_so _ (λ fault. cut_refusal c.args.name fault) (λ fault r made. search rules) c.write_jls.result c.map_err.result _ _
    (λ fault h. cut_in_file F (F → ⊥) (c.fits.ensures.0 c.if-not-fits.false) fault (desk c.args.desk.now) (desk c.create.new.desk)
    (desk c.write_jls.new.sink) c.args.name bytes _ _ c.in_ok-create.ensures.created h)
    c.map_err.ensures.cases c.write_jls.ensures.stops
