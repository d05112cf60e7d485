use Rattle.std.proofs.Common.{◌++◌, ◌∙◌, ap, sym, append_assoc}
use Rattle.std.specs.List.{flat_map, range_with_len}
use Rattle.jls_values.proofs.Lists.{flat_map_more}
use Rattle.jls_report.specs.Report.{entries_at}
use Rattle.jls_report.proofs.ranges.push_component.Goals as goal

-- the entry of one line more is appended, where one begins
pub loop-line-preserved : goal.loop-line-preserved
loop-line-preserved c =
    let at = entries_at c.args.partial.now c.args.component in
    let found = c.args.found.now.items in
    let line = c.loop-line.line in
    c.in_ok-push_line.ensures ∙ ap (λ es. es ++ at line) c.loop-line.invariant
    ∙ append_assoc found (flat_map at (range_with_len 0 line)) (at line) ∙ ap (λ es. found ++ es) (sym (flat_map_more at line))
