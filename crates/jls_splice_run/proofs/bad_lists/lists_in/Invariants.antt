use Rattle.std.proofs.Common.{◌≡◌, map, take}
use Rattle.jls_cli.specs.BadValues.{list_of}
use Rattle.jls_splice_run.specs.BadLists as spec
use Rattle.jls_splice_run.specs.Tasks.{texts_of}
use Rattle.jls_splice_run.proofs.bad_lists.lists_in.Given as goal

abbrev pub invariant-loop-value : goal.invariant-loop-value
invariant-loop-value l = map list_of l.lists.items ≡ spec.lists_in (texts_of (take l.value-index l.values))
