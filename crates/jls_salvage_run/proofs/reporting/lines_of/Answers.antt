use Rattle.std.proofs.Common.{◌≡◌, ◌++◌, ◌∙◌, ap}
use Rattle.jls_salvage_run.specs.Reporting.{report_lines}
use Rattle.jls_salvage_run.proofs.reporting.lines_of.Goals as goal

pub returns : goal.returns
returns c =
    let text : c.deref.result.now ≡ report_lines c.args.input.now.partial =
    c.deref.ensures.value ∙ (c.in_ok-text.ensures ∙ ap report_lines c.partial.ensures) in
    c.in_ok-extend_from_slice.ensures.items ∙ (λ i. c.in_ok-out.ensures i ++ text i)
