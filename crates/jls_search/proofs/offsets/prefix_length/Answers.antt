use Rattle.std.proofs.Common.{◌<◌, List, length, ap, arith}
use Rattle.jls_diff.specs.Parts.{Part}
use Rattle.jls_search.proofs.Paths.{path_at}
use Rattle.jls_search.proofs.BorderOffsets.{length_more, more_fits}
use Rattle.jls_search.proofs.offsets.prefix_length.Goals as goal

pub way-requires : goal.way-requires
way-requires c =
    let ps : List Part = c.args.parts.now in
    let l : c.loop-place.place < length c.args.path.now = omega (arith, c.loop-place-test.true, c.requires.count) in
    let r = path_at ps c.args.path.now c.loop-place.place c.requires.path l in
    r.0

pub overflow_add-total : goal.overflow_add-total
overflow_add-total c =
    let ps : List Part = c.args.parts.now in
    let l : c.loop-place.place < length c.args.path.now = omega (arith, c.loop-place-test.true, c.requires.count) in
    let m = more_fits ps c.args.path.now c.loop-place.place 9223372036854775807 c.requires.path l c.requires.few in
    let e = ap length c.way.ensures in
    let i = c.loop-place.invariant in
    omega (arith, m, e, i)

pub loop-place-preserved : goal.loop-place-preserved
loop-place-preserved c =
    let ps : List Part = c.args.parts.now in
    let l : c.loop-place.place < length c.args.path.now = omega (arith, c.loop-place-test.true, c.requires.count) in
    let m = length_more ps c.args.path.now c.loop-place.place c.requires.path l in
    let e = ap length c.way.ensures in
    let i = c.loop-place.invariant in
    omega (arith, m, e, i)
