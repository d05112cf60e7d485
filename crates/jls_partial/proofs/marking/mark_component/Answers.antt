use Rattle.std.proofs.Common.{◌<◌, ◌∙◌, ℕ, length, ap, sym, subst, arith, add-one}
use Rattle.std.proofs.lemmas.Result.{err_from_is_err_and}
use Rattle.jls_partial.specs.Marking.{line_readings, readings_of_lines}
use Rattle.jls_partial.specs.Partial.{PartialPicture, with_marks}
use Rattle.jls_partial.proofs.Marked.{with_marks-append, marks_then, lines_held}
use Rattle.jls_partial.proofs.marking.mark_component.Goals as goal

pub mark_line-requires-clause-component_in : goal.mark_line-requires-clause-component_in
mark_line-requires-clause-component_in c =
    subst (λ (p : PartialPicture). c.args.component < length p.shape.ids) (sym c.loop-line.invariant) c.requires

pub mark_line-requires-clause-line_in : goal.mark_line-requires-clause-line_in
mark_line-requires-clause-line_in c =
    let end = c.height-line-end.ensures.value in
    let shape = ap (λ s. s.height) c.shape.ensures.value in
    let lt : c.loop-line.line < c.args.partial.now.shape.height = omega (arith, end, shape, c.loop-line-test.true) in
    subst (λ (p : PartialPicture). c.loop-line.line < p.shape.height) (sym c.loop-line.invariant) lt

-- memory was refused: some readings have the source
pub returns-in_err-mark_line-clause-err : goal.returns-in_err-mark_line-clause-err
returns-in_err-mark_line-clause-err c =
    let p = err_from_is_err_and c.from_residual.result c.from_residual.ensures.1 in
    let old = c.args.partial.now in
    rw p.1 (marks_then old c.loop-line.partial c.mark_line.new.partial c.args.source
    (readings_of_lines old c.args.component c.loop-line.line) c.loop-line.invariant (lines_held old c.args.component c.loop-line.line)
    c.in_err-mark_line.ensures.err)

-- the readings of one line more have the source
pub loop-line-preserved : goal.loop-line-preserved
loop-line-preserved c =
    let old = c.args.partial.now in
    let s = c.args.source in
    let done = readings_of_lines old c.args.component c.loop-line.line in
    c.in_ok-mark_line.ensures.ok
    ∙ ap (λ (q : PartialPicture). with_marks q s (line_readings q c.args.component c.loop-line.line)) c.loop-line.invariant
    ∙ sym (with_marks-append old s done (line_readings old c.args.component c.loop-line.line))
    ∙ ap (λ (n : ℕ). with_marks old s (readings_of_lines old c.args.component n)) (sym (add-one c.loop-line.line))
