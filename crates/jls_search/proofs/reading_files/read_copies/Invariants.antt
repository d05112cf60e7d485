use Rattle.std.proofs.Common.{take}
use Rattle.jls_diff.specs.PartsOf.{bytes_of}
use Rattle.jls_search.specs.Reading.{AreRead}
use Rattle.jls_search.proofs.reading_files.read_copies.Given as goal

abbrev pub invariant-loop-copy : goal.invariant-loop-copy
invariant-loop-copy l = AreRead l.source (bytes_of (take l.copy-index l.copies)) l.read
