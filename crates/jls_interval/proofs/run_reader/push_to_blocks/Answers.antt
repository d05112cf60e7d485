use Rattle.std.proofs.Common.{◌≡◌, ◌+◌, ◌-◌, ◌<◌, [], ◌∷◌, ◌++◌, arith, subst}
use Rattle.jls_interval.specs.Runs.{blocks}
use Rattle.jls_interval.specs.Code.{interrupted_run_bits}
use Rattle.jls_interval.proofs.RunSteps.{zero_taken, counted}
use Rattle.jls_interval.proofs.run_reader.push_to_blocks.Goals as goal

pub returns-then-run_order-eq0-clause-step : goal.returns-then-run_order-eq0-clause-step
returns-then-run_order-eq0-clause-step c = λ r0 given t.
    let w0 = c.args.width in let w = c.args.columns in let fed = given ++ c.args.bit ∷ [] in
    let z = c.if-run_order-eq0.true in let j = c.run_order.ensures.value in
    let i : w0 - w + 0 ≡ w0 - w = omega arith in
    let r = counted r0 w0 fed c.args.run_index w 0 0 (zero_taken r0 w0 given c.args.run_index w t c.args.bit c.if-bit.false) (omega arith)
    (omega arith) c.requires.2 c.requires.1 in
    subst (λ z. (z < w0) × (fed ≡ interrupted_run_bits (blocks r0 z) []) × ((blocks r0 z).run_index ≡ c.args.run_index)) i r

pub returns-else-run_order-eq0-clause-step : goal.returns-else-run_order-eq0-clause-step
returns-else-run_order-eq0-clause-step c =
    λ r0 given t. zero_taken r0 c.args.width given c.args.run_index c.args.columns t c.args.bit c.if-bit.false
