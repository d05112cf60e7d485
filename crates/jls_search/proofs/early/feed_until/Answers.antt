use Rattle.std.proofs.Common.{[], refl, sym, ◌∙◌, arith}
use Rattle.jls_search.proofs.EarlyReads.{after_nothing, fed_slice, none_left, room_for_slice}
use Rattle.jls_search.proofs.early.feed_until.Goals as goal

pub loop-rest-init : goal.loop-rest-init
loop-rest-init c = ([], refl, after_nothing c.args.reader.now)

pub feed-requires : goal.feed-requires
feed-requires c =
    let inv = c.loop-rest.invariant in
    let size = c.split_at.ensures.front_len in
    let n = c.min.ensures in
    room_for_slice c.args.reader.now c.loop-rest.reader c.args.way.now inv.0 c.loop-rest.rest.now c.split_at.result.0.now
    9223372036854775807 inv.2 inv.1
    (omega (arith, size, n)) c.requires

pub loop-rest-preserved : goal.loop-rest-preserved
loop-rest-preserved c =
    fed_slice c.args.reader.now c.loop-rest.reader c.feed.new.self c.args.way.now c.loop-rest.rest.now c.split_at.result.0.now
    c.split_at.result.1.now c.min.result c.loop-rest.invariant c.split_at.ensures.front c.split_at.ensures.back c.in_ok-feed.ensures.ok

pub returns-then-is_enough : goal.returns-then-is_enough
returns-then-is_enough c =
    let fed =
    fed_slice c.args.reader.now c.loop-rest.reader c.feed.new.self c.args.way.now c.loop-rest.rest.now c.split_at.result.0.now
    c.split_at.result.1.now c.min.result c.loop-rest.invariant c.split_at.ensures.front c.split_at.ensures.back c.in_ok-feed.ensures.ok in
    record {
      begin = fed.0;
      rest = c.split_at.result.1.now;
      way_is = fed.1;
      fed = fed.2;
      all = λ e. absurd cc;
      past_it = λ _. c.if-is_enough.ensures refl;
    }

pub returns : goal.returns
returns c =
    let inv = c.loop-rest.invariant in
    record {
      begin = inv.0;
      rest = c.loop-rest.rest.now;
      way_is = inv.1;
      fed = inv.2;
      all = λ _. none_left c.loop-rest.rest.now (sym c.is_empty.ensures ∙ c.loop-rest-test.false);
      past_it = λ e. absurd cc;
    }
