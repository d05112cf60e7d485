use Rattle.std.proofs.Common.{◌++◌}
use Rattle.jls_write.specs.Parts.{scan_from}
use Rattle.jls_write.specs.WrittenFile.{marked_interval}
use Rattle.jls_write.proofs.Joining.{joined_more}
use Rattle.jls_write.proofs.file.with_scan.Goals as goal

-- one interval more is in the file
pub loop-interval-preserved : goal.loop-interval-preserved
loop-interval-preserved c =
    let part = c.args.part.now in
    joined_more (marked_interval part.picture.now (scan_from part.picture.now part.options part.first part.count)) c.loop-interval.interval
    (c.args.begun.front.items ++ c.args.begun.back.items) (c.loop-interval.file.front.items ++ c.loop-interval.file.back.items)
    (c.in_ok-file.file.front.items ++ c.in_ok-file.file.back.items) c.loop-interval.invariant c.in_ok-file.ensures
