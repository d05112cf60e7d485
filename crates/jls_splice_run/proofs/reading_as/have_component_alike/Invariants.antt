use Rattle.std.proofs.Common.{◌<◌, ℕ}
use Rattle.jls_splice_run.specs.ReadsAs.{HaveLineAlike}
use Rattle.jls_splice_run.proofs.reading_as.have_component_alike.Given as goal

abbrev pub invariant-loop-line : goal.invariant-loop-line
invariant-loop-line l = (line : ℕ) → line < l.line → HaveLineAlike l.read l.picture l.component line
