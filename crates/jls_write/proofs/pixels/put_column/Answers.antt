use Rattle.std.proofs.Common.{◌+◌, arith}
use Rattle.jls_write.proofs.Columns.{reaches, few_lent, fits, put_more}
use Rattle.jls_write.proofs.pixels.put_column.Goals as goal

pub bounds-line-column : goal.bounds-line-column
bounds-line-column c = reaches c.args.wide c.args.lines.now c.args.column c.loop-line.line-index _ c.requires.they_fit c.loop-line-test.true

-- the sample has one byte, or two where it is wide
pub put_sample-requires : goal.put_sample-requires
put_sample-requires c =
    let so_far = c.loop-line.invariant.len in
    let few = few_lent c.args.wide (c.args.column + 1) c.args.lines.now c.requires.they_fit in
    let room = c.requires.room in
    record {
      room = omega (arith, so_far, few, room);
      fits = λ narrow. fits c.args.wide c.args.lines.now c.args.column c.loop-line.line-index _ c.requires.they_fit c.loop-line-test.true
          narrow;
    }

-- the sample of one line more is put
pub loop-line-preserved : goal.loop-line-preserved
loop-line-preserved c =
    let so_far = c.loop-line.invariant.len in
    let len = c.put_sample.ensures.len in
    record {
      items = put_more c.args.wide c.args.lines.now c.args.column c.loop-line.line-index _ c.args.bytes.now.items c.loop-line.bytes.items
          c.put_sample.new.bytes.items
          c.loop-line-test.true c.loop-line.invariant.items c.put_sample.ensures.items;
      len = omega (arith, so_far, len);
    }
