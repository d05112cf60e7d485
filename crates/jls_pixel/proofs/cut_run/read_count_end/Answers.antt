use Rattle.std.proofs.Common.{ℕ, ◌-◌, ◌*◌, ◌^◌, ◌<◌, false, ◌∷◌, ◌++◌, refl, ap, ◌∙◌, subst, arith, append_assoc}
use Rattle.jls_bits.specs.Bits.{bits}
use Rattle.jls_interval.proofs.BlocksTaken.{taken_with, broken_here, no_run_long}
use Rattle.jls_pixel.specs.OpenEvents.{NumberEndIs}
use Rattle.jls_pixel.specs.declared.cut_run.NumberEnd.TheVariants.{Whole, Open}
use Rattle.jls_pixel.proofs.CutRuns.{count_cut, count_refused}
use Rattle.jls_pixel.proofs.cut_run.read_count_end.Goals as goal

pub returns-then-least-columns-clause-end : goal.returns-then-least-columns-clause-end
returns-then-least-columns-clause-end c = λ r0 given t.
    let o : ℕ = c.run_order-order.result in let o_is = c.run_order-order.ensures.value in
    let left = c.read_number_end.new.pending in let have : ℕ = c.in-Open.bits in let x : ℕ = c.in-Open.value in
    let n : NumberEndIs o c.args.pending.now left (Open have x) =
    subst (NumberEndIs o c.args.pending.now left) c.in-Open.is c.read_number_end.ensures in
    let least = c.least_count-least.ensures ∙ ap (λ z. x * 2 ^ (z - have)) o_is in let less = c.if-least-columns.true in
    count_cut r0 c.args.width given c.args.run_index c.args.columns c.args.pending.now have x t n.2 (subst (λ z. have < z) o_is n.0) n.1
    c.requires.some c.requires.columns (omega (arith, least, less))

pub returns-else-least-columns-clause-end : goal.returns-else-least-columns-clause-end
returns-else-least-columns-clause-end c = λ r0 given t.
    let o : ℕ = c.run_order-order.result in let o_is = c.run_order-order.ensures.value in
    let left = c.read_number_end.new.pending in let have : ℕ = c.in-Open.bits in let x : ℕ = c.in-Open.value in
    let n : NumberEndIs o c.args.pending.now left (Open have x) =
    subst (NumberEndIs o c.args.pending.now left) c.in-Open.is c.read_number_end.ensures in
    let least = c.least_count-least.ensures ∙ ap (λ z. x * 2 ^ (z - have)) o_is in let less = c.if-least-columns.false in
    count_refused r0 c.args.width given c.args.run_index c.args.columns c.args.pending.now have x t n.2 (subst (λ z. have < z) o_is n.0) n.1
    c.requires.some c.requires.columns (omega (arith, least, less))

pub returns-then-value-columns-clause-end : goal.returns-then-value-columns-clause-end
returns-then-value-columns-clause-end c = λ r0 given t.
    let o : ℕ = c.run_order-order.result in let o_is = c.run_order-order.ensures.value in
    let left = c.read_number_end.new.pending in let x : ℕ = c.in-Whole.value in
    let n : NumberEndIs o c.args.pending.now left (Whole x) =
    subst (NumberEndIs o c.args.pending.now left) c.in-Whole.is c.read_number_end.ensures in
    broken_here r0 c.args.width given c.args.run_index c.args.columns (false ∷ c.args.pending.now) t x left
    (subst (λ z. x < 2 ^ z) o_is n.0) (ap (λ z. false ∷ z) (n.1 ∙ ap (λ z. bits z x ++ left) o_is))

pub returns-else-value-columns-clause-end : goal.returns-else-value-columns-clause-end
returns-else-value-columns-clause-end c = λ r0 given t more.
    let o : ℕ = c.run_order-order.result in let o_is = c.run_order-order.ensures.value in
    let pending = c.args.pending.now in let left = c.read_number_end.new.pending in let x : ℕ = c.in-Whole.value in
    let n : NumberEndIs o pending left (Whole x) =
    subst (NumberEndIs o pending left) c.in-Whole.is c.read_number_end.ensures in
    no_run_long r0 c.args.width (given ++ more) c.args.run_index c.args.columns (false ∷ pending ++ more)
    (taken_with r0 c.args.width given c.args.run_index c.args.columns (false ∷ pending) t more) c.requires.some x (pending ++ more)
    (left ++ more) refl (subst (λ z. x < 2 ^ z) o_is n.0)
    (ap (λ z. z ++ more) (n.1 ∙ ap (λ z. bits z x ++ left) o_is) ∙ append_assoc (bits _ x) left more) c.if-value-columns.false
