use Rattle.std.proofs.Common.{map, take}
use Rattle.jls_held.specs.Mending.{file_of}
use Rattle.jls_splice_run.specs.Carrying.{numbered_from}
use Rattle.jls_splice_run.specs.Listing.{AreCompleted, named_files}
use Rattle.jls_splice_run.proofs.mended_files.carried_files.Given as goal

abbrev pub invariant-loop-place : goal.invariant-loop-place
invariant-loop-place l = AreCompleted (numbered_from l.prefix 1 (map file_of (take l.place l.files))) (named_files l.named.items)
