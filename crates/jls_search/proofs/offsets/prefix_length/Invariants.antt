use Rattle.std.proofs.Common.{◌≡◌, length, take}
use Rattle.jls_search.specs.Choices.{prefix_of}
use Rattle.jls_search.proofs.offsets.prefix_length.Given as goal

abbrev pub invariant-loop-place : goal.invariant-loop-place
invariant-loop-place l = l.total ≡ length (prefix_of l.parts (take l.place l.path))
