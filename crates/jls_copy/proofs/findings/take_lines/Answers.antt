use Rattle.std.proofs.Common.{map, ap, ◌∙◌, subst, arith}
use Rattle.std.proofs.lemmas.Bool.Decides.{nat_tests}
use Rattle.jls_copy.specs.Fits.{FitFrom}
use Rattle.jls_copy.proofs.Fitting.{takes_here, fit_beside, fit_below}
use Rattle.jls_copy.proofs.findings.take_lines.Goals as goal
use Rattle.jls_copy.proofs.findings.take_lines.Goals.{then-place-components, else-place-components}

-- the line fits the picture
pub take_line-requires : goal.take_line-requires
take_line-requires c =
    let here = ap (map (λ line. line.items)) c.in-Some.ensures.steps.0 in
    let fit = subst (FitFrom c.loop-line.partial.shape c.args.components.now c.loop-line.row c.loop-line.place) here
    c.loop-line.invariant.fit in
    rw c.deref.ensures.value (takes_here _ _ _ _ _ _ fit)

-- one line more is taken, and the next is in this row or the one below
pub loop-line-preserved : goal.loop-line-preserved
loop-line-preserved c =
    let here = ap (map (λ line. line.items)) c.in-Some.ensures.steps.0 in
    let fit = subst (FitFrom c.loop-line.partial.shape c.args.components.now c.loop-line.row c.loop-line.place) here
    c.loop-line.invariant.fit in
    let took = c.in_ok-take_line.ensures in
    let shape = ap (λ p. p.shape) took in
    elim c.if-place-components.branch [
      | then-place-components w ↦ record {
        shape_is = shape ∙ c.loop-line.invariant.shape_is;
        fit = rw (took, w.row-is, w.place-is) (fit_below _ _ _ _ _ _ fit w.if-place-components.true);
        leads = grind (arith, nat_tests, here, took, c.deref.ensures.value, c.loop-line.invariant.leads);
      }
      | else-place-components w ↦ record {
        shape_is = shape ∙ c.loop-line.invariant.shape_is;
        fit = rw (took, w.row-is, w.place-is)
            (fit_beside _ _ _ _ _ _ fit (omega (arith, c.loop-line.invariant.fit.place_in, w.if-place-components.false)));
        leads = grind (arith, nat_tests, here, took, c.deref.ensures.value, c.loop-line.invariant.leads);
      }
    ]
