use Rattle.std.proofs.Common.{ℕ, List, get_or, arith}
use Rattle.jls_write.specs.Pnm.{sample_bytes}
use Rattle.jls_write.proofs.OneMore.{put_from_more}
use Rattle.jls_write.proofs.pixels.put_samples.Goals as goal

pub bounds-line-column : goal.bounds-line-column
bounds-line-column c =
    let far = c.requires.they_fit.reach 0 (omega arith) in
    omega (arith, far, c.loop-column-test.true)

-- the row has room for the sample, which fits in its width
pub put_sample-requires : goal.put_sample-requires
put_sample-requires c =
    record {
      room = omega (arith, c.loop-column.invariant.len, c.loop-column-test.true, c.requires.few, c.requires.room);
      fits = λ narrow. c.requires.they_fit.fit narrow 0 c.loop-column.column (omega arith) c.loop-column-test.true;
    }

-- one sample more is put
pub loop-column-preserved : goal.loop-column-preserved
loop-column-preserved c =
    let so_far = c.loop-column.invariant.len in
    let len = c.put_sample.ensures.len in
    let low = c.loop-column.auto.column in
    let of : ℕ → List ℕ = λ column. sample_bytes c.args.wide (get_or c.args.line.now column 0) in
    record {
      items = put_from_more of c.args.start c.loop-column.column c.args.bytes.now.items c.loop-column.bytes.items
          c.put_sample.new.bytes.items
          low c.loop-column.invariant.items c.put_sample.ensures.items;
      len = omega (arith, so_far, len, low);
    }
