use Rattle.std.proofs.Common.{◌≡◌, ◌∷◌, take}
use Rattle.jls_splice_run.specs.Tasks.{texts_of}
use Rattle.jls_splice_run.proofs.task.names_of.Given as goal

abbrev pub invariant-loop-name : goal.invariant-loop-name
invariant-loop-name l = texts_of l.names.items ≡ l.asked.first.now ∷ texts_of (take l.name-index l.others)
