use Rattle.std.proofs.Common.{ap, ◌∙◌, ◌≡◌, ◌+◌, ◌-◌, ◌/◌, ℕ, refl, arith}
use Rattle.std.specs.Int.{div_ceil}
use Rattle.std.proofs.lemmas.Bool.{ne_eqb}
use Rattle.jls_marker.proofs.Intervals.{ceil_is}
use Rattle.jls_marker.proofs.scan_plan.ScanPlan.intervals.Goals as goal

-- the lines, divided by the rows of an interval and rounded up
pub returns-else-self-eq0-clause-value : goal.returns-else-self-eq0-clause-value
returns-else-self-eq0-clause-value c =
    let h = c.self.inside.height in
    let r = c.self.inside.restart_interval in
    let a : c.div_ceil.result ≡ (h + r - 1) / r =
    c.div_ceil.ensures ∙ ap (λ (x : ℕ). div_ceil x r) c.from-height.ensures
    ∙ ceil_is h r (let n = c.if-self-eq0.false in omega (arith, n)) in
    a ∙ rw (← c.self.view_is, ne_eqb r 0 c.if-self-eq0.false) refl
