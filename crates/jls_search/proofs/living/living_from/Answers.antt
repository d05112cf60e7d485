use Rattle.jls_search.specs.Choices.{prefix_of}
use Rattle.jls_search.specs.Faultless.{IsDead, IsFaultless}
use Rattle.jls_search.proofs.EarlyReads.{dead_early, fed_to_end}
use Rattle.jls_search.proofs.living.living_from.Goals as goal

pub returns-then-dead-clause-dead : goal.returns-then-dead-clause-dead
returns-then-dead-clause-dead c =
    dead_early IsFaultless (prefix_of c.args.parts.now c.args.path.now) c.feed_path_until.new.reader c.in_ok-dead.dead c.in_ok-dead.ensures
    c.if-dead.true

pub returns-clause-living : goal.returns-clause-living
returns-clause-living c =
    fed_to_end (IsDead IsFaultless) (prefix_of c.args.parts.now c.args.path.now) c.feed_path_until.new.reader c.in_ok-dead.dead
    c.in_ok-dead.ensures c.if-dead.false
