use Rattle.std.proofs.Common.{sym, arith}
use Rattle.std.proofs.lemmas.List.{length-take-le, take_all}
use Rattle.jls_carried.proofs.coding_lines.first_ones.Goals as goal

pub slice_bounds-result-end : goal.slice_bounds-result-end
slice_bounds-result-end c = sym (length-take-le 4096 c.args.edits.now (omega (arith, c.if-edits-gt-MOST_LINES.true)))

pub returns-else-edits-gt-MOST_LINES : goal.returns-else-edits-gt-MOST_LINES
returns-else-edits-gt-MOST_LINES c = sym (take_all 4096 c.args.edits.now (omega (arith, c.if-edits-gt-MOST_LINES.false)))
