use Rattle.std.proofs.Common.{◌≡◌, ◌+◌, ◌++◌, drop, map}
use Rattle.jls_memory.specs.Held.{input_file}
use Rattle.jls_mend.specs.Asking.{lists_from, lists_of, places_of}
use Rattle.jls_mend.proofs.naming.list_inputs_for.Given as goal

-- the inputs so far, and those of the other lists
abbrev pub invariant-loop-index : goal.invariant-loop-index
invariant-loop-index l =
    map input_file l.inputs.items ++ lists_from (l.index + 1) (map places_of (drop l.index l.bad)) ≡ lists_of (map places_of l.bad)
