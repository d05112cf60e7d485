use Rattle.std.proofs.Common.{map, take}
use Rattle.jls_held.specs.Mending.{file_of}
use Rattle.jls_splice_run.specs.ReadsAs.{EachReadsAs}
use Rattle.jls_splice_run.proofs.reading_as.each_reads_as.Given as goal

abbrev pub invariant-loop-file : goal.invariant-loop-file
invariant-loop-file l = EachReadsAs l.picture (map file_of (take l.file-index l.files))
