use Rattle.jls_search.specs.Choices.{prefix_of}
use Rattle.jls_search.proofs.EarlyReads.{fed_never}
use Rattle.jls_search.proofs.kept.fed_on.Goals as goal

pub returns : goal.returns
returns c =
    fed_never (prefix_of c.args.parts.now c.args.path.now) c.feed_path_until.new.reader _ c.in_ok-feed_path_until.ensures
