use Rattle.std.proofs.Common.{◌≡◌, ap, ◌∙◌, subst}
use Rattle.std.specs.Prelude.{IfOk}
use Rattle.jls_report.specs.Report.{PictureReport, report_of}
use Rattle.jls_report.specs.ReportText.{report_text}
use Rattle.jls_callers.proofs.writing.station_report.Goals as goal

pub returns : goal.returns
returns c =
    subst (λ (r : PictureReport). IfOk c.to_text.result (λ text. text.items ≡ report_text r))
    (c.in_ok-report.ensures ∙ ap report_of c.partial.ensures) c.to_text.ensures
