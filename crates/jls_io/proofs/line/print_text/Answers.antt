use Rattle.std.proofs.Common.{[]}
use Rattle.jls_io.proofs.Handed.{fresh, printed}
use Rattle.jls_io.proofs.line.print_text.Goals as goal

-- the text is handed out, or ended before
pub returns : goal.returns
returns g c =
    let h0 = g.E.Device.history c.args.faults.now in
    let begun = fresh c.new-pending.result.bytes.items c.new-pending.result.went h0 c.new-pending.ensures.empty
    c.new-pending.ensures.well in
    printed c.args.text.now c.flush.new.pending.bytes.items c.flush.new.pending.went h0 (g.E.Device.history c.flush.new.faults)
    c.flush.ensures.empty
    (c.flush.ensures.same_line c.args.text.now h0 (c.put.ensures [] h0 begun))
