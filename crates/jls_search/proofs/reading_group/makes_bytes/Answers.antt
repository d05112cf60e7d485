use Rattle.std.proofs.Common.{[], take, Some, refl, sym}
use Rattle.jls_search.specs.Choices.{prefix_of}
use Rattle.jls_search.proofs.Paths.{path_at}
use Rattle.jls_search.proofs.Prefixes.{bytes_more}
use Rattle.jls_search.proofs.reading_group.makes_bytes.Goals as goal

pub way-requires : goal.way-requires
way-requires c = (path_at c.args.parts.now c.args.path.now c.loop-at.at c.requires.path c.loop-at-test.true).0

pub loop-at-preserved : goal.loop-at-preserved
loop-at-preserved c =
    let ps = c.args.parts.now in
    let path = c.args.path.now in
    bytes_more (Some []) (Some (prefix_of ps (take c.loop-at.at path))) ps path c.loop-at.at c.way.result.now
    c.requires.path c.loop-at-test.true (sym c.way.ensures) refl c.loop-at.invariant c.are_bytes.ensures
