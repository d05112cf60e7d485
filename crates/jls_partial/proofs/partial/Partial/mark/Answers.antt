use Rattle.std.proofs.Common.{◌∙◌, length}
use Rattle.std.proofs.lemmas.Result.{err_from_is_err_and}
use Rattle.jls_partial.proofs.Marked.{marked_by_lines, completed}
use Rattle.jls_partial.proofs.Unions.{place_exists}
use Rattle.jls_partial.proofs.partial.Partial.mark.Goals as goal

-- all readings have the source
pub returns-clause-marked : goal.returns-clause-marked
returns-clause-marked c =
    let p = c.args.self.now in
    c.in_ok-mark_components.ensures.ok
    ∙ marked_by_lines p c.args.source (length p.shape.ids)
    (λ r h. place_exists p.shape r.component r.line r.samples (c.mark_components.ensures.fitting r.component r.line r.samples h))

pub returns-in_err-mark_components-clause-completed : goal.returns-in_err-mark_components-clause-completed
returns-in_err-mark_components-clause-completed c =
    let p = err_from_is_err_and c.from_residual.result c.from_residual.ensures.1 in
    rw p.1 (completed c.args.self.now c.mark_components.new.partial c.args.source c.in_err-mark_components.ensures.err)
