use Rattle.std.proofs.Common.{◌≡◌, ◌+◌, length}
use Rattle.std.specs.List.{flat_map, range_with_len}
use Rattle.jls_write.specs.Outcomes.{HandedOut}
use Rattle.jls_write.specs.Parts.{scan_from}
use Rattle.jls_write.specs.WrittenFile.{marked_interval}
use Rattle.jls_write.proofs.write.write_scan.Given as goal

-- before each interval: those before it went out
abbrev pub invariant-loop-interval : goal.invariant-loop-interval
invariant-loop-interval g l =
    let history = g.W.Device.history in
    let contents = g.W.Sink.contents in
    let pic = l.part.picture.now in
    let so_far = flat_map (marked_interval pic (scan_from pic l.part.options l.part.first l.part.count)) (range_with_len 0 l.interval) in
    record {
      counted : l.count ≡ l.fn.before + length so_far;
      out : HandedOut (history l.fn.sink) (history l.sink) (contents l.fn.sink) (contents l.sink) so_far;
    }
