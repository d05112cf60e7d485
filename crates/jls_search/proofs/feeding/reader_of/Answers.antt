use Rattle.jls_search.specs.Choices.{prefix_of}
use Rattle.jls_search.proofs.Prefixes.{room_at_first, fed_first}
use Rattle.jls_search.proofs.feeding.reader_of.Goals as goal

pub feed_prefix-requires : goal.feed_prefix-requires
feed_prefix-requires c = record {
  path = c.requires.path;
  few = room_at_first c.new-reader.result (prefix_of c.args.parts.now c.args.path.now) 9223372036854775807 c.new-reader.ensures
      c.requires.few;
}

pub returns : goal.returns
returns c = fed_first c.feed_prefix.new.reader c.new-reader.result (prefix_of c.args.parts.now c.args.path.now) c.new-reader.ensures
    c.in_ok-feed_prefix.ensures.fed
