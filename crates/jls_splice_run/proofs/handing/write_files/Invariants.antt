use Rattle.std.proofs.Common.{take}
use Rattle.jls_io.specs.Event.{GrewBy}
use Rattle.jls_splice_run.specs.Handing.{HandsFiles}
use Rattle.jls_splice_run.specs.Listing.{named_files}
use Rattle.jls_splice_run.proofs.handing.write_files.Given as goal

abbrev pub invariant-loop-place : goal.invariant-loop-place
invariant-loop-place g l = GrewBy (HandsFiles (named_files (take l.place l.files))) (g.D.Device.history l.fn.desk)
    (g.D.Device.history l.desk)
