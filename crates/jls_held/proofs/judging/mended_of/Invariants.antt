use Rattle.std.proofs.Common.{drop}
use Rattle.jls_held.specs.Mending.{file_of}
use Rattle.jls_held.specs.Judging.{bytes_of, coding_of}
use Rattle.jls_held.proofs.EditedCopies.{IsMendedSoFar}
use Rattle.jls_held.proofs.judging.mended_of.Given as goal

-- the copies so far make the same bytes
abbrev pub invariant-loop-edited : goal.invariant-loop-edited
invariant-loop-edited l =
    IsMendedSoFar (bytes_of l.copies) (coding_of l.coding) (coding_of (drop l.edited-index l.others)) (file_of l.file)
