use Rattle.std.proofs.Common.{arith, sym, ◌∙◌}
use Rattle.jls_bits.proofs.DataBits.{whole_at_end, whole_at_stop, whole_at_more}
use Rattle.jls_bits.proofs.reader.is_whole_from.Goals as goal

pub returns-then-ends_data : goal.returns-then-ends_data
returns-then-ends_data c =
    sym (sym c.loop-next.invariant
    ∙ whole_at_stop c.loop-next.before c.args.bytes.now c.loop-next.next-index (omega arith)
    (sym c.ends_data.ensures ∙ c.if-ends_data.true))

pub loop-next-preserved : goal.loop-next-preserved
loop-next-preserved c =
    sym (whole_at_more c.loop-next.before c.args.bytes.now c.loop-next.next-index (omega arith)
    (sym c.ends_data.ensures ∙ c.if-ends_data.false)) ∙ c.loop-next.invariant

pub returns : goal.returns
returns c = sym (sym c.loop-next.invariant ∙ whole_at_end c.loop-next.before c.args.bytes.now c.loop-next.next-index (omega arith))
