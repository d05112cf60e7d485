use Rattle.std.proofs.Common.{Err, ap, refl}
use Rattle.jls_salvage_run.proofs.Held.{copy_differs, copy_runs_out, not_both}
use Rattle.jls_salvage_run.proofs.inputs.join_copy.Goals as goal

pub returns-in-Err-ShapeDiffers-clause-refused : goal.returns-in-Err-ShapeDiffers-clause-refused
returns-in-Err-ShapeDiffers-clause-refused c =
    copy_differs c.args.held c.in-Some.station c.args.read.partial c.partial.result.now c.args.name c.in-Some.is c.partial.ensures
    (c.in-Err-ShapeDiffers.ensures.shape_differs.0 (ap (λ e. Err e) c.in-Err-ShapeDiffers.field-0-is))

pub returns-clause-refused : goal.returns-clause-refused
returns-clause-refused c =
    copy_runs_out c.args.held c.in-Some.station c.args.read.partial c.partial.result.now c.args.name c.in-Some.is c.partial.ensures
    (λ e. not_both (Err c.in-Err-OutOfMemory.field-0) c.in-Err-OutOfMemory.field-0 refl c.in-Err-OutOfMemory.field-0-is
    (c.in-Err-OutOfMemory.ensures.shape_differs.1 e))
