use Rattle.std.proofs.Common.{◌≡◌, true, rules, arith}
use Rattle.jls_search.proofs.ReaderLevels.{none_more}
use Rattle.jls_search.proofs.next_level.next_stop.Goals as goal

pub loop-stop-preserved : goal.loop-stop-preserved
loop-stop-preserved c =
    let so_far = c.loop-stop.invariant in
    let same : c.is_same_at.result ≡ true = search rules in
    record {
      from_on = omega (arith, so_far.from_on);
      within = omega (arith, so_far.within, c.loop-stop-test.true, c.len.ensures);
      same = none_more c.args.parts.now c.args.from c.loop-stop.stop so_far.same (c.is_same_at.ensures.alike same);
    }
