use Rattle.std.proofs.Common.{◌≡◌, map, take}
use Rattle.std.specs.String.{string_bytes}
use Rattle.jls_mend.specs.Asking.{inputs_from, names_in}
use Rattle.jls_mend.proofs.naming.numbers_of.Given as goal

abbrev pub invariant-loop-index : goal.invariant-loop-index
invariant-loop-index l =
    map string_bytes l.names.items ≡ names_in (inputs_from 1 (take l.index (map (λ copy. copy.now) l.copies)))
