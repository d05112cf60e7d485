use Rattle.std.proofs.Common.{arith}
use Rattle.std.proofs.lemmas.Result.{err_from_is_err_and}
use Rattle.jls_partial.specs.TextReading.{samples_fields}
use Rattle.jls_partial.proofs.TextLoops.{sample_len, samples_go_on, samples_end, samples_done}
use Rattle.jls_partial.proofs.text_samples.read_each_sample.Goals as goal

-- a sample can't be read
pub returns-in_err-sample : goal.returns-in_err-sample
returns-in_err-sample c =
    let p = err_from_is_err_and c.from_residual-in_err-sample.result c.from_residual-in_err-sample.ensures.1 in
    rw (p.1, p.2) (samples_end c.in_err-sample.field-0.0 c.args.size c.args.limit c.loop.samples.items c.args.count c.loop.counter
    c.loop.rest.now (samples_fields c.args.size c.args.limit c.args.count c.args.bytes.now) c.loop-test.true c.in_err-sample.ensures
    c.loop.invariant.same)

pub push_reserved-requires : goal.push_reserved-requires
push_reserved-requires c =
    let len = sample_len c.args.size c.args.limit c.loop.rest.now c.in_ok-sample.sample c.in_ok-sample.after.now c.in_ok-sample.ensures in
    omega (arith, len, c.loop.invariant.room, c.loop-test.true)

-- one sample more is read
pub loop-preserved : goal.loop-preserved
loop-preserved c =
    let len = sample_len c.args.size c.args.limit c.loop.rest.now c.in_ok-sample.sample c.in_ok-sample.after.now c.in_ok-sample.ensures in
    record {
      room = omega (arith, len, c.loop.invariant.room, c.loop-test.true, c.push_reserved.ensures.len, c.push_reserved.ensures.capacity);
      same = rw c.push_reserved.ensures.items
          (samples_go_on c.args.size c.args.limit c.loop.samples.items c.args.count c.loop.counter c.loop.rest.now c.in_ok-sample.sample
          c.in_ok-sample.after.now (samples_fields c.args.size c.args.limit c.args.count c.args.bytes.now) c.loop-test.true
          c.in_ok-sample.ensures c.loop.invariant.same);
    }

pub returns : goal.returns
returns c = samples_done c.args.size c.args.limit c.loop.samples.items c.args.count c.loop.counter c.loop.rest.now
    (samples_fields c.args.size c.args.limit c.args.count c.args.bytes.now) c.loop-test.false c.loop.invariant.same
