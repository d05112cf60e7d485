use Rattle.std.proofs.Common.{[], ◌∷◌, ap, ◌∙◌}
use Rattle.std.proofs.lemmas.Slice.{pushed}
use Rattle.jls_c.specs.Lines.{line_status, status_number}
use Rattle.jls_c.proofs.Rows.{numbers_pushed}
use Rattle.jls_c.proofs.statuses.push_component.Goals as goal

pub loop-line-preserved : goal.loop-line-preserved
loop-line-preserved c =
    numbers_pushed (line_status c.args.partial.now c.args.component)
    c.loop-line.line c.args.statuses.now.items c.push.new.self.items c.status_number.result
    (pushed (c.status_number.result ∷ []) c.loop-line.invariant c.in_ok-push.was c.push.ensures.items)
    (c.status_number.ensures ∙ ap status_number c.status.ensures)
