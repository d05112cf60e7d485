use Rattle.std.proofs.Common.{◌≡◌, ◌+◌, ◌++◌, drop, map}
use Rattle.std.specs.String.{string_bytes}
use Rattle.jls_mend.specs.Asking.{places_of, values_from, values_of}
use Rattle.jls_mend.proofs.naming.values_for.Given as goal

-- the values so far, and those of the other lists
abbrev pub invariant-loop-index : goal.invariant-loop-index
invariant-loop-index l =
    map string_bytes l.values.items ++ values_from (l.index + 1) (map places_of (drop l.index l.bad)) ≡ values_of (map places_of l.bad)
