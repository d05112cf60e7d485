use Rattle.std.proofs.Common.{◌+◌, ap, arith}
use Rattle.std.proofs.Common.{length}
use Rattle.jls_splice_run.proofs.Offsets.{offset_one_more, offset_within}
use Rattle.jls_splice_run.proofs.differences.offset_at.Goals as goal

pub overflow_add-offset : goal.overflow_add-offset
overflow_add-offset c =
    let ps = c.args.parts.now in
    let more = offset_one_more ps c.loop-at.at (omega arith) in
    let at_most = offset_within ps (c.loop-at.at + 1) in
    let here = ap length c.way.ensures in
    omega (arith, more, at_most, here, c.loop-at.invariant, c.requires.small)

pub loop-at-preserved : goal.loop-at-preserved
loop-at-preserved c =
    let ps = c.args.parts.now in
    let more = offset_one_more ps c.loop-at.at (omega arith) in
    let here = ap length c.way.ensures in
    omega (arith, more, here, c.loop-at.invariant)
