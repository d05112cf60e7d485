use Rattle.std.proofs.Common.{◌≡◌, ◌+◌, length}
use Rattle.std.specs.Prelude.{◌==◌}
use Rattle.std.specs.List.{position_or_len}
use Rattle.jls_marker.proofs.component_index.index_of.Given as goal

-- no component so far has the identifier
abbrev pub invariant-loop-rest : goal.invariant-loop-rest
invariant-loop-rest l = record {
  so_far : l.index + position_or_len (λ other. other == l.id) l.rest ≡ position_or_len (λ other. other == l.id) l.frame_ids;
  passed : l.index + length l.rest ≡ length l.frame_ids;
}

abbrev pub decreases-loop-rest : goal.decreases-loop-rest
decreases-loop-rest l = length l.rest
