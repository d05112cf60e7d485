use Rattle.std.proofs.Common.{◌≢◌, take}
use Rattle.std.specs.List.{All}
use Rattle.jls_held.proofs.file_pieces.is_recorded.Given as goal

-- no record so far has the offset
abbrev pub invariant-loop-record : goal.invariant-loop-record
invariant-loop-record l = All (λ r. r.offset ≢ l.offset) (take l.record-index l.records)
