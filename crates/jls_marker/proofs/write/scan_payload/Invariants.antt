use Rattle.std.proofs.Common.{◌≡◌, ◌≤◌, ◌+◌, ◌*◌, ◌∷◌, [], ◌++◌, length}
use Rattle.std.specs.List.{flat_map}
use Rattle.jls_marker.proofs.write.scan_payload.Given as goal

-- the bytes so far and those of the rest are the payload, and there is room
abbrev pub invariant-loop-rest : goal.invariant-loop-rest
invariant-loop-rest l = record {
  so_far : l.payload.items ++ flat_map (λ id. id ∷ 0 ∷ []) l.rest ≡ length l.head.ids ∷ flat_map (λ id. id ∷ 0 ∷ []) l.head.ids;
  room : length l.payload.items + 2 * length l.rest ≤ 9;
}

abbrev pub decreases-loop-rest : goal.decreases-loop-rest
decreases-loop-rest l = length l.rest
