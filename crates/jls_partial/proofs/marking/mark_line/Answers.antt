use Rattle.std.proofs.Common.{◌≡◌, ◌<◌, ◌∙◌, [], List, ℕ, length, map, take, ap, sym, subst, arith}
use Rattle.std.proofs.lemmas.List.{append-nil, take_at}
use Rattle.std.proofs.lemmas.Result.{err_from_is_err_and}
use Rattle.jls_partial.specs.Marking.{MarksSome}
use Rattle.jls_partial.specs.Partial.{PartialPicture, readings_at, with_marks}
use Rattle.jls_partial.specs.Reading.{reading_of}
use Rattle.jls_partial.proofs.Marked.{marks_none, marks_then, marked_more, prefix_held}
use Rattle.jls_partial.proofs.marking.mark_line.Goals as goal

pub mark_reading-requires-clause-component_in : goal.mark_reading-requires-clause-component_in
mark_reading-requires-clause-component_in c =
    subst (λ (p : PartialPicture). c.args.component < length p.shape.ids) (sym c.loop-i.invariant) c.requires.component_in

pub mark_reading-requires-clause-line_in : goal.mark_reading-requires-clause-line_in
mark_reading-requires-clause-line_in c =
    subst (λ (p : PartialPicture). c.args.line < p.shape.height) (sym c.loop-i.invariant) c.requires.line_in

pub mark_reading-requires-clause-i_in : goal.mark_reading-requires-clause-i_in
mark_reading-requires-clause-i_in c =
    let end = c.count-i-end.ensures in
    let lt : c.loop-i.i < length (readings_at c.args.partial.now c.args.component c.args.line) = omega (arith, end, c.loop-i-test.true) in
    subst (λ (p : PartialPicture). c.loop-i.i < length (readings_at p c.args.component c.args.line)) (sym c.loop-i.invariant) lt

-- memory was refused: some readings have the source
pub returns-in_err-mark_reading-clause-err : goal.returns-in_err-mark_reading-clause-err
returns-in_err-mark_reading-clause-err c =
    let p = err_from_is_err_and c.from_residual.result c.from_residual.ensures.1 in
    let old = c.args.partial.now in
    rw p.1 (marks_then old c.loop-i.partial c.mark_reading.new.self c.args.source
    (map (reading_of c.args.component c.args.line) (take c.loop-i.i (readings_at old c.args.component c.args.line))) c.loop-i.invariant
    (prefix_held old c.args.component c.args.line c.loop-i.i)
    (subst (MarksSome c.loop-i.partial c.args.source) (sym c.in_err-mark_reading.ensures.err) (marks_none c.loop-i.partial c.args.source)))

-- one reading more has the source
pub loop-i-preserved : goal.loop-i-preserved
loop-i-preserved c =
    let end = c.count-i-end.ensures in
    let lt : c.loop-i.i < length (readings_at c.args.partial.now c.args.component c.args.line) = omega (arith, end, c.loop-i-test.true) in
    marked_more c.args.partial.now c.loop-i.partial c.mark_reading.new.self c.args.source c.args.component c.args.line c.loop-i.i
    c.loop-i.invariant lt c.in_ok-mark_reading.ensures.ok

-- all readings of the line have the source
pub returns-clause-ok : goal.returns-clause-ok
returns-clause-ok c =
    let xs = readings_at c.args.partial.now c.args.component c.args.line in
    let end = c.count-i-end.ensures in
    let all : length xs ≡ c.loop-i.i = omega (arith, end) in
    c.loop-i.invariant ∙ ap (λ (ys : List (List ℕ)). with_marks c.args.partial.now c.args.source
    (map (reading_of c.args.component c.args.line) ys)) (ap (take c.loop-i.i) (sym (append-nil xs)) ∙ take_at xs [] c.loop-i.i all)
