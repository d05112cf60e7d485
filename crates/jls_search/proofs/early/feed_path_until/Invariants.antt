use Rattle.std.proofs.Common.{◌≡◌, Some, take}
use Rattle.jls_search.specs.Choices.{prefix_of}
use Rattle.jls_search.proofs.early.feed_path_until.Given as goal

abbrev pub invariant-loop-at : goal.invariant-loop-at
invariant-loop-at l = l.reader ≡ Some (prefix_of l.parts (take l.at l.path))
