use Rattle.std.proofs.Common.{◌≡◌, take}
use Rattle.jls_search.specs.Choices.{prefix_of}
use Rattle.jls_search.proofs.making.file_of.Given as goal

abbrev pub invariant-loop-place : goal.invariant-loop-place
invariant-loop-place l = l.file.items ≡ prefix_of l.parts (take l.place l.choices)
