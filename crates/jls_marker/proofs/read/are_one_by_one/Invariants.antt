use Rattle.std.proofs.Common.{◌≡◌, length}
use Rattle.std.specs.Prelude.{◌==◌}
use Rattle.std.specs.List.{list_all}
use Rattle.jls_marker.specs.Layouts.{frame_components}
use Rattle.jls_marker.proofs.read.are_one_by_one.Given as goal

-- no component so far is subsampled, so the answer is that of the rest
abbrev pub invariant-loop-rest : goal.invariant-loop-rest
invariant-loop-rest l = list_all (λ c. c.sampling == 0x11) (frame_components l.rest)
    ≡ list_all (λ c. c.sampling == 0x11) (frame_components l.components)

abbrev pub decreases-loop-rest : goal.decreases-loop-rest
decreases-loop-rest l = length l.rest
