use Rattle.std.proofs.Common.{◌≡◌, ◌+◌, length}
use Rattle.std.specs.List.{flat_map, range_with_len}
use Rattle.jls_write.specs.Outcomes.{HandedOut}
use Rattle.jls_write.specs.Options.{components_of_scan}
use Rattle.jls_write.specs.Parts.{scan_from}
use Rattle.jls_write.specs.WrittenFile.{scan_bytes}
use Rattle.jls_write.proofs.write.write_scans.Given as goal

-- before each scan: those before it went out
abbrev pub invariant-loop-first : goal.invariant-loop-first
invariant-loop-first g l =
    let history = g.W.Device.history in
    let contents = g.W.Sink.contents in
    let pic = l.picture in
    let so_far = flat_map (λ first. scan_bytes pic (scan_from pic l.options first (components_of_scan pic.shape l.options)))
    (range_with_len 0 l.first) in
    record {
      counted : l.done ≡ l.fn.before + length so_far;
      out : HandedOut (history l.fn.sink) (history l.sink) (contents l.fn.sink) (contents l.sink) so_far;
    }
