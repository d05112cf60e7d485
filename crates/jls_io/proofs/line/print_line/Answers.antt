use Rattle.std.proofs.Common.{ap}
use Rattle.std.specs.List.{flat_map}
use Rattle.std.proofs.lemmas.List.{take_all}
use Rattle.jls_io.specs.Lines.{line_of, part_bytes}
use Rattle.jls_io.proofs.Handed.{fresh, handed_as, line_ends, printed}
use Rattle.jls_io.proofs.line.print_line.Goals as goal

pub loop-part-init : goal.loop-part-init
loop-part-init g c =
    fresh c.new-pending.result.bytes.items c.new-pending.result.went (g.E.Device.history c.args.faults.now) c.new-pending.ensures.empty
    c.new-pending.ensures.well

-- all parts and the newline are handed out, or the line ended before
pub returns : goal.returns
returns g c =
    let history = g.E.Device.history in
    let parts = c.args.parts.now in
    let h0 = history c.args.faults.now in
    let all = ap (flat_map part_bytes) (take_all c.loop-part.part-index parts c.loop-part-test.false) in
    let line = handed_as _ (flat_map part_bytes parts) _ _ h0 _ all c.loop-part.invariant in
    let whole = handed_as _ (line_of parts) _ _ h0 _ (line_ends parts) (c.put.ensures (flat_map part_bytes parts) h0 line) in
    printed (line_of parts) c.flush.new.pending.bytes.items c.flush.new.pending.went h0 (history c.flush.new.faults) c.flush.ensures.empty
    (c.flush.ensures.same_line (line_of parts) h0 whole)
