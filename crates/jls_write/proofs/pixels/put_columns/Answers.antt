use Rattle.std.proofs.Common.{◌+◌, arith}
use Rattle.jls_write.specs.Waiting.{column_bytes}
use Rattle.jls_write.proofs.OneMore.{put_from_more}
use Rattle.jls_write.proofs.Columns.{lines_to_fewer, lent}
use Rattle.jls_write.proofs.pixels.put_columns.Goals as goal

-- the column is in each line, and the row has room for it
pub put_column-requires : goal.put_column-requires
put_column-requires c =
    record {
      room = omega (arith, c.loop-column.invariant.len, c.loop-column-test.true, c.requires.few, c.requires.room);
      they_fit = lines_to_fewer c.args.wide c.args.end (c.loop-column.column + 1) (lent c.args.lines.now)
          (omega (arith, c.loop-column-test.true)) c.requires.they_fit;
    }

-- one column more is put
pub loop-column-preserved : goal.loop-column-preserved
loop-column-preserved c =
    let so_far = c.loop-column.invariant.len in
    let len = c.put_column.ensures.len in
    let low = c.loop-column.auto.column in
    record {
      items = put_from_more (column_bytes c.args.wide (lent c.args.lines.now)) c.args.start c.loop-column.column c.args.bytes.now.items
          c.loop-column.bytes.items c.put_column.new.bytes.items
          low c.loop-column.invariant.items c.put_column.ensures.items;
      len = omega (arith, so_far, len, low);
    }
