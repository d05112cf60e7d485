use Rattle.std.proofs.Common.{◌≡◌, ◌<◌, take}
use Rattle.std.specs.List.{AllByRecursion}
use Rattle.jls_copy.specs.ReadCopy.{after}
use Rattle.jls_search.specs.Choices.{prefix_of}
use Rattle.jls_search.proofs.feeding.feed_prefix.Given as goal

abbrev pub invariant-loop-place : goal.invariant-loop-place
invariant-loop-place l = record {
  fed : l.reader ≡ after l.fn.reader (prefix_of l.parts (take l.place l.choices));
  bytes : AllByRecursion (λ b. b < 256) (prefix_of l.parts (take l.place l.choices));
}
