use Rattle.std.proofs.Common.{◌≡◌, map, take}
use Rattle.jls_search.specs.Seen.{verdict_of}
use Rattle.jls_search.proofs.seen.verdicts_of.Given as goal

abbrev pub invariant-loop-file : goal.invariant-loop-file
invariant-loop-file l = l.verdicts.items ≡ map verdict_of (take l.file-index l.seen)
