use Rattle.std.proofs.Common.{◌∙◌, ap, rules, refl, subst}
use Rattle.std.proofs.lemmas.Result.{IfErr-at_err, IfOk-at_ok, err_from_is_err_and}
use Rattle.jls_io.specs.Event.{GrewBy}
use Rattle.jls_io.specs.Outputs.{HandsOut}
use Rattle.jls_partial.specs.Partial.{PartialPicture}
use Rattle.jls_partial.specs.Status.{IsSettled}
use Rattle.jls_write.specs.Picture.{WholePicture, picture_of}
use Rattle.jls_write.specs.Unsettled.{NamesFirstUnsettled}
use Rattle.jls_salvage_run.specs.WritingFiles.{file, FitsFormat, IsTooLarge, takes_memory, StopsAtFile, unsettled_refusal}
use Rattle.jls_station.proofs.Mapped.{error_at, value_at}
use Rattle.jls_salvage_run.proofs.Written.{stops_at_input, stops_unsettled, is_written, stops_at_file}
use Rattle.jls_salvage_run.proofs.writing.write.Goals as goal

pub returns-in_err-input : goal.returns-in_err-input
returns-in_err-input g c =
    let desk = g.D.Device.history in
    let p = err_from_is_err_and c.from_residual.result c.from_residual.ensures.1 in
    rw (p.1, p.2) (stops_at_input c.args.format c.args.out.now c.args.file.now (desk c.args.desk.now) (desk c.open_and_read.new.desk)
    (desk c.open_and_read.new.desk) c.in_err-input.field-0.0 c.in_err-input.ensures.named c.in_err-input.ensures.stopped)

pub returns-in_err-picture : goal.returns-in_err-picture
returns-in_err-picture g c =
    let desk = g.D.Device.history in
    let is = c.partial-partial.ensures in
    let made = error_at _ (λ fault. unsettled_refusal c.args.file c.partial-partial.result.now fault) (λ fault r made. search rules)
    c.of.result c.map_err.result c.in_err-picture.field-0.0 c.map_err.ensures.cases c.in_err-picture.was in
    let first = subst (λ (p : PartialPicture). NamesFirstUnsettled p made.0) is (IfErr-at_err _ made.2 c.of.ensures.unsettled) in
    let because = made.1 ∙ ap (λ (p : PartialPicture). unsettled_refusal c.args.file p made.0) is in
    let p = err_from_is_err_and c.from_residual-in_err-picture.result c.from_residual-in_err-picture.ensures.1 in
    rw (p.1, p.2) (stops_unsettled c.args.format c.args.out.now c.args.file.now (desk c.args.desk.now) (desk c.open_and_read.new.desk)
    (desk c.open_and_read.new.desk) c.in_ok-input.input c.in_ok-input.ensures.taken
    c.in_err-picture.field-0.0 c.args.file made.0 refl first because)

pub returns : goal.returns
returns g c =
    let desk = g.D.Device.history in
    let is = c.partial-partial.ensures in
    let was = value_at _ c.of.result c.map_err.result c.in_ok-picture.picture c.map_err.ensures.cases c.in_ok-picture.was in
    let same = IfOk-at_ok _ was c.of.ensures.picture ∙ ap picture_of is in
    let settled = subst IsSettled is (IfOk-at_ok _ was c.of.ensures.settled) in
    let handed = subst (λ (p : WholePicture). GrewBy (HandsOut c.args.out.now (file c.args.format p)) (desk c.open_and_read.new.desk)
    (desk c.hand_out.new.desk)) same c.in_ok-hand_out.ensures.written in
    is_written c.args.format c.args.out.now c.args.file.now (desk c.args.desk.now) (desk c.open_and_read.new.desk)
    (desk c.hand_out.new.desk) c.in_ok-input.input c.in_ok-input.ensures.taken
    settled c.is_whole-whole.result (record { settled_is = (λ _. settled, λ _. refl); whole_is = c.is_whole-whole.ensures })
    (subst (FitsFormat c.args.format) same c.in_ok-hand_out.ensures.fit) handed

pub returns-in_err-hand_out : goal.returns-in_err-hand_out
returns-in_err-hand_out g c =
    let desk = g.D.Device.history in
    let is = c.partial-partial.ensures in
    let was = value_at _ c.of.result c.map_err.result c.in_ok-picture.picture c.map_err.ensures.cases c.in_ok-picture.was in
    let same = IfOk-at_ok _ was c.of.ensures.picture ∙ ap picture_of is in
    let settled = subst IsSettled is (IfOk-at_ok _ was c.of.ensures.settled) in
    let r = c.in_err-hand_out.field-0.0 in
    let stopped = subst (λ (p : WholePicture). GrewBy
    (StopsAtFile (FitsFormat c.args.format p) (IsTooLarge c.args.format p) (takes_memory c.args.format) (file c.args.format p) r)
    (desk c.open_and_read.new.desk) (desk c.hand_out.new.desk))
    same c.in_err-hand_out.ensures.stopped in
    let p = err_from_is_err_and c.from_residual-in_err-hand_out.result c.from_residual-in_err-hand_out.ensures.1 in
    rw (p.1, p.2) (stops_at_file c.args.format c.args.out.now c.args.file.now (desk c.args.desk.now) (desk c.open_and_read.new.desk)
    (desk c.hand_out.new.desk) c.in_ok-input.input c.in_ok-input.ensures.taken
    settled r c.in_err-hand_out.ensures.named stopped)
