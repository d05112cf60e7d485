use Rattle.std.proofs.Common.{◌≡◌, map, take}
use Rattle.jls_held.specs.Chains.{place_of}
use Rattle.jls_held.proofs.code_ends.places_of.Given as goal

-- the places so far are those in the first bytes
abbrev pub invariant-loop-byte : goal.invariant-loop-byte
invariant-loop-byte l = l.places.items ≡ map place_of (take l.byte-index l.bytes)
