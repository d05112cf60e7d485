use Rattle.std.proofs.Common.{◌<◌, ℕ}
use Rattle.jls_splice_run.specs.ReadsAs.{HaveComponentAlike}
use Rattle.jls_splice_run.proofs.reading_as.have_all_alike.Given as goal

abbrev pub invariant-loop-component : goal.invariant-loop-component
invariant-loop-component l = (component : ℕ) → component < l.component → HaveComponentAlike l.read l.picture component
