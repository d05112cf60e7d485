use Rattle.std.proofs.Common.{rules}
use Rattle.jls_io.proofs.Handed.{flushed_not, flushed_whole, flushed_prefix}
use Rattle.jls_io.proofs.pending.hand_out.Goals as goal

pub returns-then-not-went : goal.returns-then-not-went
returns-then-not-went g c = λ line before h.
    let now = g.E.Device.history c.args.faults.now in
    flushed_not line c.args.bytes.now before now now c.args.went (search rules) h

pub returns-in-Ok : goal.returns-in-Ok
returns-in-Ok g c = λ line before h.
    let history = g.E.Device.history in
    flushed_whole line c.args.bytes.now before (history c.args.faults.now) (history c.write_all.new.sink) c.args.went (search rules)
    c.in-Ok.ensures.written h

pub returns-in-Err : goal.returns-in-Err
returns-in-Err g c = λ line before h.
    let history = g.E.Device.history in
    flushed_prefix line c.args.bytes.now before (history c.args.faults.now) (history c.write_all.new.sink) c.args.went _ (search rules)
    c.in-Err.ensures.stopped h
