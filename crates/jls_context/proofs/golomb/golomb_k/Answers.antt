use Rattle.std.proofs.Common.{◌≡◌, ℕ, ◌+◌, ◌-◌, ◌*◌, ◌%◌, ◌^◌, ltb, sym, subst}
use mir.Val.{bool_byte}
use Rattle.jls_context.specs.Regular.{IsGolombK}
use Rattle.jls_context.proofs.GolombLaws.{order_within, raised_fits, order_is_k, golomb_k_is, k_at_most}
use Rattle.jls_context.proofs.golomb.golomb_k.Goals as goal

pub overflow_sub-order : goal.overflow_sub-order
overflow_sub-order c =
    order_within c.args.occurrences c.args.magnitudes c.max.result c.ilog2.result c.ilog2-2.result c.max.ensures c.ilog2-2.ensures.power_le
    c.ilog2-2.ensures.next_power_gt c.ilog2.ensures.power_le c.ilog2.ensures.next_power_gt

-- k by the bits of A and N, or one more, is the least
pub returns-clause-least : goal.returns-clause-least
returns-clause-least c =
    let n : ℕ = c.args.occurrences in let a : ℕ = c.args.magnitudes in let e : ℕ = c.ilog2.result in let f : ℕ = c.ilog2-2.result in
    let fits : n * 2 ^ (e - f) % 4294967296 ≡ n * 2 ^ (e - f) =
    raised_fits n a c.max.result e f c.max.ensures c.ilog2-2.ensures.power_le c.ilog2-2.ensures.next_power_gt c.ilog2.ensures.power_le
    c.ilog2.ensures.next_power_gt c.ilog2.ensures.bound in
    subst (λ z. IsGolombK n a (e - f + bool_byte (ltb z a))) (sym fits)
    (order_is_k n a c.max.result e f c.max.ensures c.ilog2-2.ensures.power_le c.ilog2-2.ensures.next_power_gt c.ilog2.ensures.power_le
    c.ilog2.ensures.next_power_gt)

pub returns-clause-value : goal.returns-clause-value
returns-clause-value c = sym (golomb_k_is c.args.occurrences c.args.magnitudes _ c.requires.some (returns-clause-least c))

pub returns-clause-at_most : goal.returns-clause-at_most
returns-clause-at_most c = k_at_most c.args.occurrences c.args.magnitudes _ c.requires.few (returns-clause-least c)
