use Rattle.std.proofs.Common.{◌≡◌}
use Rattle.jls_interval.proofs.RunChunks.{count_at_once, no_count_at_once}
use Rattle.jls_interval.proofs.run_reader.RunState.take_count.Goals as goal

-- the count is below the columns left
pub returns-then-value-columns-clause-step : goal.returns-then-value-columns-clause-step
returns-then-value-columns-clause-step c =
    let i = c.in-Count-default-default-eq0-default in let none : i.bits ≡ 0 = cc (i.bits-is, i.bits-test) in
    count_at_once c.args.width c.args.self i.run_index i.columns i.bits i.value c.run_order.result c.in-Some.value c.args.chunk.now
    c.take_bits.new.self i.is none c.requires c.run_order.ensures.value c.in-Some.ensures.some c.in-Some.ensures.number
    c.if-value-columns.true

-- the count is not below the columns left
pub returns-else-value-columns-clause-step : goal.returns-else-value-columns-clause-step
returns-else-value-columns-clause-step c =
    let i = c.in-Count-default-default-eq0-default in let none : i.bits ≡ 0 = cc (i.bits-is, i.bits-test) in
    no_count_at_once c.args.width c.args.self i.run_index i.columns i.bits i.value c.run_order.result c.in-Some.value c.args.chunk.now
    c.take_bits.new.self i.is none c.requires c.run_order.ensures.value c.in-Some.ensures.some c.in-Some.ensures.number
    c.if-value-columns.false
