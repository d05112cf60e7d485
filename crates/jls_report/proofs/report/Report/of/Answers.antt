use Rattle.std.proofs.Common.{List, subst, sym, ◌∙◌}
use Rattle.jls_values.specs.Shape.{PictureShape}
use Rattle.jls_report.specs.declared.entry.ReportEntry.{ReportEntry}
use Rattle.jls_report.specs.Report.{report_entries, AreOfShape}
use Rattle.jls_report.proofs.OfShape.{of_shape}
use Rattle.jls_report.proofs.report.Report.of.Goals as goal

-- the entries are of the shape of the partial picture
pub invariant_of-result : goal.invariant_of-result
invariant_of-result c =
    let p = c.args.partial.now in
    subst (λ (es : List ReportEntry). AreOfShape c.to_owned.result es) (sym c.in_ok-entries.ensures)
    (subst (λ (s : PictureShape). AreOfShape s (report_entries p)) (sym (c.to_owned.ensures ∙ c.shape.ensures.value)) (of_shape p))
