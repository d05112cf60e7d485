use Rattle.jls_search.proofs.TakenFiles.{takes_none, copies_taken}
use Rattle.jls_search.proofs.taking.take_copies.Goals as goal

pub loop-copy-init : goal.loop-copy-init
loop-copy-init c = takes_none c.args.source c.args.station.now

pub loop-copy-preserved : goal.loop-copy-preserved
loop-copy-preserved c =
    copies_taken c.args.source c.args.station.now c.loop-copy.station c.take_copy.new.station c.args.copies.now c.loop-copy.copy-index _
    c.loop-copy-test.true c.loop-copy.invariant c.in_ok-take_copy.ensures
