use Rattle.std.proofs.Common.{◌≡◌, drop}
use Rattle.jls_cli.specs.SpliceAsking.{asked_of}
use Rattle.jls_splice_run.specs.Runs as spec
use Rattle.jls_splice_run.specs.Tasks.{texts_of}
use Rattle.jls_splice_run.proofs.task.bad_value_in.Given as goal

abbrev pub invariant-loop-value : goal.invariant-loop-value
invariant-loop-value l =
    spec.bad_value_among (asked_of l.asked) (texts_of (drop l.value-index l.asked.bad.now)) ≡ spec.bad_value (asked_of l.asked)
