use Rattle.std.proofs.Common.{◌<◌, List, ℕ, arith, length, sym, subst, take, drop}
use Rattle.std.proofs.Math.Seq.{take-add}
use Rattle.std.proofs.lemmas.List.{take_rest, length-take, length-drop}
use Rattle.std.specs.Io.KnownBytes.{Appends}
use Rattle.jls_io.specs.Event.{GrewBy}
use Rattle.jls_io.specs.Writing.{Wrote}
use Rattle.jls_io.proofs.Known.{appends_on}
use Rattle.jls_io.proofs.Writes.{one_write_more}
use Rattle.jls_io.proofs.writing.write_all.Goals as goal

-- one write more took some of the bytes
pub loop-done-preserved : goal.loop-done-preserved
loop-done-preserved g c =
    let history = g.W.Device.history in
    let contents = g.W.Sink.contents in
    let bytes : List ℕ = c.args.bytes.now in
    let done = c.loop-done.done in
    let n = c.in-Ok.n in
    let left : 0 < length (drop done bytes) = omega (arith, length-drop done bytes, c.loop-done-test.true) in
    let some : 0 < n = (rw (take_rest bytes done) at c.in-Ok.ensures.some) left in
    let within = rw (take_rest bytes done) at c.in-Ok.ensures.within in
    let taken : 0 < length (take n (drop done bytes)) = omega (arith, length-take n (drop done bytes), some, left) in
    let more = sym (take-add done n bytes) in
    record {
      within = omega (arith, c.in-Ok.ensures.within);
      so_far = subst (λ (t : List ℕ). GrewBy (Wrote t) (history c.args.sink.now) (history c.write_some.new.self)) more
          (one_write_more (history c.args.sink.now) (history c.loop-done.sink) (history c.write_some.new.self) (take done bytes)
          (take n (drop done bytes))
          c.loop-done.invariant.so_far taken (rw (take_rest bytes done) at c.in-Ok.ensures.written));
      holds = subst (λ (t : List ℕ). Appends (contents c.args.sink.now) (contents c.write_some.new.self) t) more
          (appends_on (contents c.args.sink.now) (contents c.loop-done.sink) (contents c.write_some.new.self) (take done bytes)
          (take n (drop done bytes))
          c.loop-done.invariant.holds (rw (take_rest bytes done) at c.in-Ok.ensures.bytes));
    }
