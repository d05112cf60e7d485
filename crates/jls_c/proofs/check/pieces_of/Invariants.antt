use Rattle.std.proofs.Common.{◌≡◌, map, take}
use Rattle.jls_c.specs.Info.{piece_of}
use Rattle.jls_c.proofs.check.pieces_of.Given as goal

abbrev pub invariant-loop-record : goal.invariant-loop-record
invariant-loop-record l = l.pieces.items ≡ map piece_of (take l.record-index l.records)
