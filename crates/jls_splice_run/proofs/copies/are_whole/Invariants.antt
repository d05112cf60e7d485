use Rattle.std.proofs.Common.{take}
use Rattle.jls_station.specs.CopyFiles.{copies_of}
use Rattle.jls_splice_run.specs.Copies.{AreWhole}
use Rattle.jls_splice_run.proofs.copies.are_whole.Given as goal

abbrev pub invariant-loop-copy : goal.invariant-loop-copy
invariant-loop-copy l = AreWhole (copies_of (take l.copy-index l.copies))
