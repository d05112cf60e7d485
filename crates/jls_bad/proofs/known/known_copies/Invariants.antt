use Rattle.std.proofs.Common.{take}
use Rattle.std.specs.List.{AllZip}
use Rattle.jls_bad.specs.Known.{IsKnownCopy}
use Rattle.jls_bad.specs.Copies.{bytes_in, copies_of}
use Rattle.jls_bad.proofs.known.known_copies.Given as goal

abbrev pub invariant-loop-copy : goal.invariant-loop-copy
invariant-loop-copy l = AllZip (IsKnownCopy (copies_of l.fn.copies)) (take l.copy-index (copies_of l.fn.copies)) (bytes_in l.known.items)
