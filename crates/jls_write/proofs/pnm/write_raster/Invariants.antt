use Rattle.std.proofs.Common.{◌<◌, length}
use Rattle.std.specs.List.{flat_map, range_with_len}
use Rattle.jls_write.specs.Pnm.{row_bytes}
use Rattle.jls_write.specs.Waiting.{PutAfter}
use Rattle.jls_write.proofs.pnm.write_raster.Given as goal

-- before each row: those before it are put, and few bytes wait
abbrev pub invariant-loop-row : goal.invariant-loop-row
invariant-loop-row g l =
    let history = g.W.Device.history in
    let contents = g.W.Sink.contents in
    record {
      few : length l.waiting.bytes.items < 4096;
      put : PutAfter (history l.fn.sink) (history l.sink) (contents l.fn.sink) (contents l.sink)
          l.fn.waiting.bytes.items l.fn.waiting.gone l.waiting.bytes.items l.waiting.gone
          (flat_map (row_bytes l.picture) (range_with_len 0 l.row));
    }
