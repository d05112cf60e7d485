use Rattle.std.proofs.Common.{◌≡◌, ℕ, ◌+◌, ◌*◌, ◌^◌, ◌<◌, ◌≤◌, List, Bool, false, [], ◌∷◌, ◌++◌, arith}
use mir.Val.{bool_byte}
use Rattle.jls_bits.specs.Bits.{bits}
use Rattle.jls_interval.specs.Runs.{run_order}
use Rattle.jls_interval.specs.Reading.{Taken}
use Rattle.jls_interval.proofs.RunSteps.{digit_taken, counted, counted_long}
use Rattle.jls_interval.proofs.run_reader.push_to_count.Goals as goal
use Rattle.jls_interval.proofs.run_reader.push_to_count.Goals.{After-run_order}

-- the bit is one more of the count
more_taken : (c : After-run_order) (r0 : ℕ) (given : List Bool)
    → Taken r0 c.args.width given c.args.run_index c.args.columns (false ∷ bits c.args.count.bits c.args.count.value)
    → (let n = c.args.count.bits + 1 in let m = 2 * c.args.count.value + bool_byte c.args.bit in
    Taken r0 c.args.width (given ++ c.args.bit ∷ []) c.args.run_index c.args.columns (false ∷ bits n m) × (m < 2 ^ n))
more_taken c r0 given t =
    digit_taken r0 c.args.width given c.args.run_index c.args.columns c.args.count.bits c.args.count.value t c.args.bit c.requires.5

-- the bit is the last one of the count
whole : (c : After-run_order) → c.run_order.result ≤ c.args.count.bits + 1 → c.args.count.bits + 1 ≡ run_order c.args.run_index
whole c last = let e = c.run_order.ensures.value in let s = c.requires.3 in omega arith

pub returns-then-bits-run_order-clause-step : goal.returns-then-bits-run_order-clause-step
returns-then-bits-run_order-clause-step c = λ r0 given t.
    (more_taken (goal.at.returns-then-bits-run_order-clause-step c).After-run_order r0 given t).0

pub returns-then-value-columns-clause-step : goal.returns-then-value-columns-clause-step
returns-then-value-columns-clause-step c = λ r0 given t.
    let here = (goal.at.returns-then-value-columns-clause-step c).After-run_order in let d = more_taken here r0 given t in
    counted r0 c.args.width _ c.args.run_index c.args.columns (c.args.count.bits + 1)
    (2 * c.args.count.value + bool_byte c.args.bit) d.0 (whole here c.if-bits-run_order.false) d.1 c.requires.2 c.if-value-columns.true

pub returns-else-value-columns-clause-step : goal.returns-else-value-columns-clause-step
returns-else-value-columns-clause-step c = λ r0 given t.
    let here = (goal.at.returns-else-value-columns-clause-step c).After-run_order in let d = more_taken here r0 given t in
    counted_long r0 c.args.width _ c.args.run_index c.args.columns (c.args.count.bits + 1)
    (2 * c.args.count.value + bool_byte c.args.bit) d.0 (whole here c.if-bits-run_order.false) d.1 c.requires.1 c.if-value-columns.false
