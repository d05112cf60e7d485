use Rattle.std.proofs.Common.{take}
use Rattle.jls_diff.specs.PartsOf.{bytes_of}
use Rattle.jls_search.specs.Stations.{TakesFiles}
use Rattle.jls_search.proofs.taking.take_copies.Given as goal

abbrev pub invariant-loop-copy : goal.invariant-loop-copy
invariant-loop-copy l = TakesFiles l.source (bytes_of (take l.copy-index l.copies)) l.fn.station l.station
