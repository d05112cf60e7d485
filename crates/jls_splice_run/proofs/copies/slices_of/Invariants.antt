use Rattle.std.proofs.Common.{◌≡◌, take}
use Rattle.jls_station.specs.CopyFiles.{copies_of}
use Rattle.jls_diff.specs.PartsOf.{bytes_of}
use Rattle.jls_splice_run.specs.Copies.{bytes_read}
use Rattle.jls_splice_run.proofs.copies.slices_of.Given as goal

abbrev pub invariant-loop-copy : goal.invariant-loop-copy
invariant-loop-copy l = bytes_of l.slices.items ≡ bytes_read (copies_of (take l.copy-index l.copies))
