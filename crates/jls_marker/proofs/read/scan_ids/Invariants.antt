use Rattle.std.proofs.Common.{◌≡◌, ◌≤◌, ◌+◌, ◌*◌, ◌++◌, length, map}
use Rattle.jls_marker.specs.Layouts.{scan_components}
use Rattle.jls_marker.proofs.read.scan_ids.Given as goal

-- the identifiers so far and those of the rest are all of them
abbrev pub invariant-loop-rest : goal.invariant-loop-rest
invariant-loop-rest l = record {
  so_far : l.ids.items ++ map (λ c. c.id) (scan_components l.rest) ≡ map (λ c. c.id) (scan_components l.components);
  room : length l.rest + 2 * length l.ids.items ≤ 8;
}

abbrev pub decreases-loop-rest : goal.decreases-loop-rest
decreases-loop-rest l = length l.rest
