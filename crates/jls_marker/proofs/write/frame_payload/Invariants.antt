use Rattle.std.proofs.Common.{◌≡◌, ◌≤◌, ◌+◌, ◌*◌, ◌∷◌, [], ◌++◌, length}
use Rattle.std.specs.List.{flat_map}
use Rattle.jls_marker.specs.Written.{frame_payload}
use Rattle.jls_marker.proofs.write.frame_payload.Given as goal

-- the bytes so far and those of the rest are the payload, and there is room
abbrev pub invariant-loop-rest : goal.invariant-loop-rest
invariant-loop-rest l = record {
  so_far : l.payload.items ++ flat_map (λ id. id ∷ 0x11 ∷ 0 ∷ []) l.rest ≡ frame_payload l.frame;
  room : length l.payload.items + 3 * length l.rest ≤ 18;
}

abbrev pub decreases-loop-rest : goal.decreases-loop-rest
decreases-loop-rest l = length l.rest
