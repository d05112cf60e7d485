use Rattle.std.proofs.Common.{◌<◌, ◌∙◌, ℕ, length, ap, sym, subst, arith, add-one}
use Rattle.std.proofs.lemmas.Result.{err_from_is_err_and}
use Rattle.jls_partial.specs.Marking.{readings_of_lines, readings_of_components}
use Rattle.jls_partial.specs.Partial.{PartialPicture, with_marks}
use Rattle.jls_partial.proofs.Marked.{with_marks-append, marks_then, components_held}
use Rattle.jls_partial.proofs.marking.mark_components.Goals as goal

pub mark_component-requires : goal.mark_component-requires
mark_component-requires c =
    let ids = ap length c.ids.ensures.value in
    let shape = ap (λ s. length s.ids) c.shape.ensures.value in
    let lt : c.loop-component.component < length c.args.partial.now.shape.ids = omega (arith, ids, shape, c.loop-component-test.true) in
    subst (λ (p : PartialPicture). c.loop-component.component < length p.shape.ids) (sym c.loop-component.invariant) lt

-- memory was refused: some readings have the source
pub returns-in_err-mark_component-clause-err : goal.returns-in_err-mark_component-clause-err
returns-in_err-mark_component-clause-err c =
    let p = err_from_is_err_and c.from_residual.result c.from_residual.ensures.1 in
    let old = c.args.partial.now in
    rw p.1 (marks_then old c.loop-component.partial c.mark_component.new.partial c.args.source
    (readings_of_components old c.loop-component.component) c.loop-component.invariant (components_held old c.loop-component.component)
    c.in_err-mark_component.ensures.err)

-- the readings of one component more have the source
pub loop-component-preserved : goal.loop-component-preserved
loop-component-preserved c =
    let old = c.args.partial.now in
    let s = c.args.source in
    let done = readings_of_components old c.loop-component.component in
    c.in_ok-mark_component.ensures.ok
    ∙ ap (λ (q : PartialPicture). with_marks q s (readings_of_lines q c.loop-component.component q.shape.height)) c.loop-component.invariant
    ∙ sym (with_marks-append old s done (readings_of_lines old c.loop-component.component old.shape.height))
    ∙ ap (λ (n : ℕ). with_marks old s (readings_of_components old n)) (sym (add-one c.loop-component.component))
