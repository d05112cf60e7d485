use Rattle.std.proofs.Common.{None}
use Rattle.std.proofs.lemmas.Result.{err_from_is_err_and}
use Rattle.jls_partial.specs.TextReading.{sources_fields}
use Rattle.jls_partial.proofs.TextLoops.{sources_go_on, sources_end, sources_done}
use Rattle.jls_partial.proofs.text_reading.read_sources.Goals as goal

-- a source can't be read
pub returns-in_err-source : goal.returns-in_err-source
returns-in_err-source c =
    let p = err_from_is_err_and c.from_residual.result c.from_residual.ensures.1 in
    rw (p.1, p.2) (sources_end c.in_err-source.field-0.0 c.args.size c.loop.before c.loop.sources.items c.args.count c.loop.counter
    c.loop.rest.now (sources_fields c.args.size None c.args.count c.args.bytes.now) c.loop-test.true c.in_err-source.ensures
    c.loop.invariant)

pub loop-preserved : goal.loop-preserved
loop-preserved c =
    rw c.in_ok-push.ensures.items (sources_go_on c.args.size c.loop.before c.loop.sources.items c.args.count c.loop.counter c.loop.rest.now
    c.in_ok-source.source c.in_ok-source.after.now (sources_fields c.args.size None c.args.count c.args.bytes.now) c.loop-test.true
    c.in_ok-source.ensures c.loop.invariant)

pub returns : goal.returns
returns c = sources_done c.args.size c.loop.before c.loop.sources.items c.args.count c.loop.counter c.loop.rest.now
    (sources_fields c.args.size None c.args.count c.args.bytes.now) c.loop-test.false c.loop.invariant
