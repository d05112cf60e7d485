use Rattle.std.proofs.Common.{List, sym, ◌∙◌}
use Rattle.jls_diff.specs.Parts.{Part}
use Rattle.jls_search.proofs.Paths.{path_at}
use Rattle.jls_search.proofs.Prefixes.{fed_more, bytes_more, room}
use Rattle.jls_search.proofs.feeding.feed_prefix.Goals as goal

pub way-requires : goal.way-requires
way-requires c =
    let ps : List Part = c.args.parts.now in
    let r = path_at ps c.args.choices.now c.loop-place.place c.requires.path c.loop-place-test.true in
    r.0

pub feed_way-requires : goal.feed_way-requires
feed_way-requires c =
    room c.args.reader.now c.loop-place.reader c.args.parts.now c.args.choices.now c.loop-place.place c.way.result.now
    c.requires.path c.loop-place-test.true (sym c.way.ensures) c.loop-place.invariant.fed 9223372036854775807 c.requires.few

pub loop-place-preserved : goal.loop-place-preserved
loop-place-preserved c = record {
  fed =
      c.in_ok-feed_way.ensures.fed
      ∙ fed_more c.args.reader.now c.loop-place.reader c.args.parts.now c.args.choices.now c.loop-place.place c.way.result.now
      c.requires.path c.loop-place-test.true (sym c.way.ensures) c.loop-place.invariant.fed;
  bytes =
      bytes_more c.args.reader.now c.loop-place.reader c.args.parts.now c.args.choices.now c.loop-place.place c.way.result.now
      c.requires.path c.loop-place-test.true (sym c.way.ensures) c.loop-place.invariant.fed c.loop-place.invariant.bytes
      c.in_ok-feed_way.ensures.bytes;
}
