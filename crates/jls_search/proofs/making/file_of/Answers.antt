use Rattle.std.proofs.Common.{List, ◌∙◌}
use Rattle.jls_diff.specs.Parts.{Part}
use Rattle.jls_search.proofs.Paths.{path_at}
use Rattle.jls_search.proofs.Prefixes.{prefix_one_more}
use Rattle.jls_search.proofs.making.file_of.Goals as goal

pub way-requires : goal.way-requires
way-requires c =
    let ps : List Part = c.args.parts.now in
    let r = path_at ps c.args.choices.now c.loop-place.place c.requires c.loop-place-test.true in
    r.0

pub loop-place-preserved : goal.loop-place-preserved
loop-place-preserved c =
    c.in_ok-extend_from_slice.ensures.items
    ∙ prefix_one_more c.args.parts.now c.args.choices.now c.loop-place.place c.loop-place.file.items c.way.result.now
    c.requires c.loop-place-test.true c.loop-place.invariant c.way.ensures
