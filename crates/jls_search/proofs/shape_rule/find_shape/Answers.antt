use Rattle.std.proofs.Common.{length, take, sym, subst, arith, rules}
use Rattle.std.specs.Prelude.{IsTrue, IsFalse}
use Rattle.jls_diff.specs.PartsOf.{bytes_of}
use Rattle.jls_search.specs.Files.{splices_found}
use Rattle.jls_search.specs.Shapes.{IsShapeTaken}
use Rattle.jls_search.proofs.SeenFiles.{prefix_count, prefix_copies, of_copies, taken_shape, differ}
use Rattle.jls_search.proofs.shape_rule.find_shape.Goals as goal

pub slice_bounds-copies-end : goal.slice_bounds-copies-end
slice_bounds-copies-end c =
    prefix_count c.args.files.now.copies.now (splices_found c.args.files.now) c.args.seen.now c.requires.seen

pub shape_of_copies-requires : goal.shape_of_copies-requires
shape_of_copies-requires c =
    let e = prefix_count c.args.files.now.copies.now (splices_found c.args.files.now) c.args.seen.now c.requires.seen in
    omega (arith, e, c.requires.some_copy)

pub returns-in-None : goal.returns-in-None
returns-in-None c =
    let copies = c.args.files.now.copies.now in
    let found = splices_found c.args.files.now in
    let seen = c.args.seen.now in
    of_copies (bytes_of copies) found seen c.requires.seen (take (length copies) seen) c.shape_of_copies.result
    (prefix_copies copies found seen c.requires.seen) c.in-None.ensures.none c.shape_of_copies.ensures

pub returns-then-agree : goal.returns-then-agree
returns-then-agree c =
    let copies = bytes_of c.args.files.now.copies.now in
    let found = splices_found c.args.files.now in
    let yes : IsTrue c.agree.result = search rules in
    subst (IsShapeTaken copies found) (sym c.to_owned.ensures)
    (taken_shape copies found c.args.seen.now c.requires.seen c.in-Some.shape.now c.in-Some.ensures.some (c.agree.ensures.same yes))

pub returns-else-agree : goal.returns-else-agree
returns-else-agree c =
    let copies = c.args.files.now.copies.now in
    let found = splices_found c.args.files.now in
    let seen = c.args.seen.now in
    let no : IsFalse c.agree.result = search rules in
    differ (bytes_of copies) found seen c.requires.seen c.in-Some.shape.now c.in-Some.ensures.some (take (length copies) seen)
    c.copy_to_name.result (prefix_copies copies found seen c.requires.seen) (c.agree.ensures.other no) c.copy_to_name.ensures
