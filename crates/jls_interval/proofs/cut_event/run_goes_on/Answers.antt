use Rattle.std.proofs.Common.{◌-◌, ◌*◌, ◌^◌, ◌∙◌, sym, ap, subst, arith}
use Rattle.std.proofs.lemmas.Bool.{ltb-true, ltb-false}
use Rattle.jls_interval.proofs.CutRuns.{Continues, Passes, run_continues, run_passes}
use Rattle.jls_interval.proofs.cut_event.run_goes_on.Goals as goal

pub returns-in-Blocks-clause-yes : goal.returns-in-Blocks-clause-yes
returns-in-Blocks-clause-yes c = λ _ r0 w0 fed i t. run_continues r0 w0 fed c.args.state i t (subst Continues (sym c.in-Blocks.is) tt)

pub returns-in-Count-clause-yes : goal.returns-in-Count-clause-yes
returns-in-Count-clause-yes c = λ e r0 w0 fed i t.
    let least = c.least_count.ensures ∙ ap (λ z. c.in-Count.value * 2 ^ (z - c.in-Count.bits)) c.run_order.ensures.value in
    let below = ltb-true _ _ e in
    run_continues r0 w0 fed c.args.state i t (subst Continues (sym c.in-Count.is) (omega (arith, least, below)))

pub returns-in-Count-clause-no : goal.returns-in-Count-clause-no
returns-in-Count-clause-no c = λ e r0 w0 fed i t.
    let least = c.least_count.ensures ∙ ap (λ z. c.in-Count.value * 2 ^ (z - c.in-Count.bits)) c.run_order.ensures.value in
    let above = ltb-false _ _ e in
    run_passes r0 w0 fed c.args.state i t (subst Passes (sym c.in-Count.is) (omega (arith, least, above)))
