use Rattle.std.proofs.Common.{arith}
use Rattle.jls_search.specs.Search.{IsFedEnough}
use Rattle.jls_search.proofs.EarlyReads.{fed_all, fed_enough, fed_whole}
use Rattle.jls_search.proofs.KeptReaders.{room_for_one}
use Rattle.jls_search.proofs.Paths.{path_at}
use Rattle.jls_search.proofs.early.feed_path_until.Goals as goal

pub way-requires : goal.way-requires
way-requires c = (path_at c.args.parts.now c.args.path.now c.loop-at.at c.requires.path c.loop-at-test.true).0

pub feed_until-requires : goal.feed_until-requires
feed_until-requires c =
    room_for_one c.args.parts.now c.args.path.now c.loop-at.at c.requires.path c.loop-at-test.true c.loop-at.reader
    c.way.result.now 9223372036854775807 c.way.ensures c.loop-at.invariant c.requires.few

pub returns-then-enough : goal.returns-then-enough
returns-then-enough c =
    fed_enough (IsFedEnough c.args.until) c.args.parts.now c.args.path.now c.loop-at.at c.requires.path c.loop-at-test.true c.loop-at.reader
    c.feed_until.new.reader c.way.result.now c.way.ensures c.loop-at.invariant c.in_ok-enough.enough c.in_ok-enough.ensures c.if-enough.true

pub loop-at-preserved : goal.loop-at-preserved
loop-at-preserved c =
    fed_all (IsFedEnough c.args.until) c.args.parts.now c.args.path.now c.loop-at.at c.requires.path c.loop-at-test.true c.loop-at.reader
    c.feed_until.new.reader c.way.result.now c.way.ensures c.loop-at.invariant c.in_ok-enough.enough c.in_ok-enough.ensures
    c.if-enough.false

pub returns : goal.returns
returns c =
    fed_whole (IsFedEnough c.args.until) c.args.parts.now c.args.path.now c.loop-at.at c.loop-at.reader
    (omega (arith, c.loop-at-test.false))
    c.loop-at.invariant
