use Rattle.std.proofs.Common.{arith, sym, ap, length, ◌∙◌}
use Rattle.jls_bits.proofs.DataBits.{data_at_end, data_at_stop, length_at_more, width_bounds}
use Rattle.jls_bits.proofs.reader.count_bits.Goals as goal

pub returns-then-ends_data-clause-count : goal.returns-then-ends_data-clause-count
returns-then-ends_data-clause-count c =
    let a = ap length (data_at_stop c.loop-next.before c.args.bytes.now c.loop-next.next-index (omega arith)
    (sym c.ends_data.ensures ∙ c.if-ends_data.true)) in
    omega (arith, a, c.loop-next.invariant.counted)

-- the bits of one byte more are counted
pub loop-next-preserved : goal.loop-next-preserved
loop-next-preserved c =
    let a = length_at_more c.loop-next.before c.args.bytes.now c.loop-next.next-index (omega arith)
    (sym c.ends_data.ensures ∙ c.if-ends_data.false) in
    let w = width_bounds c.loop-next.before in
    record { counted = omega (arith, a, c.loop-next.invariant.counted); at_most = omega (arith, w) }

pub returns-clause-count : goal.returns-clause-count
returns-clause-count c =
    let a = ap length (data_at_end c.loop-next.before c.args.bytes.now c.loop-next.next-index (omega arith)) in
    omega (arith, a, c.loop-next.invariant.counted)
