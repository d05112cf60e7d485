use Rattle.std.proofs.Common.{length, ◌-◌, ◌≤◌, take}
use Rattle.std.specs.Io.KnownBytes.{Appends}
use Rattle.jls_io.specs.Event.{GrewBy}
use Rattle.jls_io.specs.Writing.{Wrote}
use Rattle.jls_io.proofs.writing.write_all.Given as goal

-- the bytes before this one went out
abbrev pub invariant-loop-done : goal.invariant-loop-done
invariant-loop-done g l =
    let history = g.W.Device.history in
    let contents = g.W.Sink.contents in
    record {
      within : l.done ≤ length l.bytes;
      so_far : GrewBy (Wrote (take l.done l.bytes)) (history l.fn.sink) (history l.sink);
      holds : Appends (contents l.fn.sink) (contents l.sink) (take l.done l.bytes);
    }

abbrev pub decreases-loop-done : goal.decreases-loop-done
decreases-loop-done g l = length l.bytes - l.done
