use Rattle.std.proofs.Common.{ap, ◌∙◌, Err}
use Rattle.jls_station.specs.Given.{marked}
use Rattle.jls_search.proofs.TakenFiles.{taken_in, other_shape}
use Rattle.jls_search.proofs.file.take_read.Goals as goal

pub returns-in-Ok : goal.returns-in-Ok
returns-in-Ok c =
    taken_in c.args.source c.args.station.now c.args.read c.put_source.new.partial c.take.new.self
    (c.in_ok-put_source.ensures ∙ ap (marked c.args.source) c.into_partial-partial.ensures) c.in-Ok.ensures.ok_same_shape c.in-Ok.ensures.ok

pub returns-in-Err-ShapeDiffers : goal.returns-in-Err-ShapeDiffers
returns-in-Err-ShapeDiffers c =
    let is = ap (λ e. Err e) c.in-Err-ShapeDiffers.field-0-is in
    other_shape c.args.source c.args.station.now c.args.read c.put_source.new.partial c.take.new.self
    (c.in_ok-put_source.ensures ∙ ap (marked c.args.source) c.into_partial-partial.ensures)
    (c.in-Err-ShapeDiffers.ensures.shape_differs.0 is) (c.in-Err-ShapeDiffers.ensures.unchanged is)
