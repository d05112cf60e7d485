use Rattle.std.proofs.Common.{◌≡◌, ◌+◌, ◌++◌, drop, map}
use Rattle.std.specs.String.{string_bytes}
use Rattle.jls_mend.specs.Asking.{lists_from, lists_of, names_in, places_of}
use Rattle.jls_mend.proofs.naming.list_names_of.Given as goal

-- the names so far, and those of the other lists
abbrev pub invariant-loop-index : goal.invariant-loop-index
invariant-loop-index l =
    map string_bytes l.names.items ++ names_in (lists_from (l.index + 1) (map places_of (drop l.index l.bad)))
    ≡ names_in (lists_of (map places_of l.bad))
