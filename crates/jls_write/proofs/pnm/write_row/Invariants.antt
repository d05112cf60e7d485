use Rattle.std.proofs.Common.{◌≤◌, ◌<◌, ◌-◌, length}
use Rattle.std.specs.List.{flat_map, range_with_len}
use Rattle.jls_write.specs.Pnm.{pixel_bytes}
use Rattle.jls_write.specs.Waiting.{PutAfter}
use Rattle.jls_write.proofs.pnm.write_row.Given as goal

-- before each step: the columns up to here are put
abbrev pub invariant-loop-start : goal.invariant-loop-start
invariant-loop-start g l =
    let history = g.W.Device.history in
    let contents = g.W.Sink.contents in
    record {
      within : l.start ≤ l.picture.shape.width;
      few : length l.waiting.bytes.items < 4096;
      put : PutAfter (history l.fn.sink) (history l.sink) (contents l.fn.sink) (contents l.sink)
          l.fn.waiting.bytes.items l.fn.waiting.gone l.waiting.bytes.items l.waiting.gone
          (flat_map (pixel_bytes l.picture l.row) (range_with_len 0 l.start));
    }

abbrev pub decreases-loop-start : goal.decreases-loop-start
decreases-loop-start g l = l.picture.shape.width - l.start
