use Rattle.std.proofs.Common.{take}
use Rattle.jls_search.proofs.Records.{NoneBetween}
use Rattle.jls_search.proofs.reading_between.has_record_between.Given as goal

abbrev pub invariant-loop-reported : goal.invariant-loop-reported
invariant-loop-reported l = NoneBetween l.from l.to (take l.reported-index l.records)
