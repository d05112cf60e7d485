use Rattle.std.proofs.Common.{◌≡◌, ◌≤◌, ◌+◌, ◌++◌, length, map}
use Rattle.std.specs.Prelude.{nat_lt}
use Rattle.std.specs.List.{list_all}
use Rattle.jls_marker.specs.ComponentIndex.{index_of}
use Rattle.jls_marker.proofs.component_index.indices_of.Given as goal

-- the indices so far and those of the rest are all of them
abbrev pub invariant-loop-rest : goal.invariant-loop-rest
invariant-loop-rest l = record {
  so_far : l.indices.items ++ map (index_of l.frame_ids) l.rest ≡ map (index_of l.frame_ids) l.ids;
  known : list_all (λ id. nat_lt (index_of l.frame_ids id) (length l.frame_ids)) l.rest
      ≡ list_all (λ id. nat_lt (index_of l.frame_ids id) (length l.frame_ids)) l.ids;
  room : length l.rest + length l.indices.items ≤ 4;
}

abbrev pub decreases-loop-rest : goal.decreases-loop-rest
decreases-loop-rest l = length l.rest
