use Rattle.std.proofs.Common.{sym, arith}
use Rattle.std.proofs.lemmas.List.{length-take-le, take_all}
use Rattle.jls_splice_run.proofs.lines.first_ones.Goals as goal

pub slice_bounds-result-end : goal.slice_bounds-result-end
slice_bounds-result-end c = sym (length-take-le 4096 c.args.differences.now (omega (arith, c.if-differences-gt-MOST_LINES.true)))

pub returns-else-differences-gt-MOST_LINES : goal.returns-else-differences-gt-MOST_LINES
returns-else-differences-gt-MOST_LINES c = sym (take_all 4096 c.args.differences.now (omega (arith, c.if-differences-gt-MOST_LINES.false)))
