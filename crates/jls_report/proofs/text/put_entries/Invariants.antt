use Rattle.std.proofs.Common.{◌≡◌, ◌++◌, take}
use Rattle.std.specs.List.{flat_map}
use Rattle.jls_report.specs.ReportText.{entry_line}
use Rattle.jls_report.proofs.text.put_entries.Given as goal

abbrev pub invariant-loop-entry : goal.invariant-loop-entry
invariant-loop-entry l = l.out.items ≡ l.fn.out.items ++ flat_map (entry_line l.ids) (take l.entry-index l.entries)
