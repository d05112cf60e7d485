use Rattle.std.proofs.Common.{◌≡◌, ◌≤◌, ◌+◌, ◌*◌, ◌++◌, length, map}
use Rattle.jls_marker.specs.Layouts.{frame_components}
use Rattle.jls_marker.proofs.read.frame_ids.Given as goal

-- the identifiers so far and those of the rest are all of them
abbrev pub invariant-loop-rest : goal.invariant-loop-rest
invariant-loop-rest l = record {
  so_far : l.ids.items ++ map (λ c. c.id) (frame_components l.rest) ≡ map (λ c. c.id) (frame_components l.components);
  room : length l.rest + 3 * length l.ids.items ≤ 765;
}

abbrev pub decreases-loop-rest : goal.decreases-loop-rest
decreases-loop-rest l = length l.rest
