use Rattle.std.proofs.Common.{◌≡◌, map, take}
use Rattle.jls_memory.specs.Held.{input_file}
use Rattle.jls_mend.specs.Asking.{inputs_from}
use Rattle.jls_mend.proofs.naming.inputs_for.Given as goal

abbrev pub invariant-loop-index : goal.invariant-loop-index
invariant-loop-index l = map input_file l.inputs.items ≡ inputs_from 1 (take l.index (map (λ copy. copy.now) l.copies))
