use Rattle.std.proofs.Common.{◌≡◌, map, take}
use Rattle.jls_splice_run.specs.Tasks.{texts_of}
use Rattle.jls_splice_run.proofs.bad_lists.names_of.Given as goal

abbrev pub invariant-loop-list : goal.invariant-loop-list
invariant-loop-list l = texts_of l.names.items ≡ map (λ list. list.name.now) (take l.list-index l.lists)
