use Rattle.std.proofs.Common.{◌<◌, take}
use Rattle.std.specs.List.{AllByRecursion}
use Rattle.jls_search.specs.Choices.{prefix_of}
use Rattle.jls_search.proofs.reading_group.makes_bytes.Given as goal

abbrev pub invariant-loop-at : goal.invariant-loop-at
invariant-loop-at l = AllByRecursion (λ b. b < 256) (prefix_of l.parts (take l.at l.path))
