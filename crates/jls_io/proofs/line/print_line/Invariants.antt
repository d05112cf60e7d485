use Rattle.std.proofs.Common.{take}
use Rattle.std.specs.List.{flat_map}
use Rattle.jls_io.specs.Handing.{HandedBut}
use Rattle.jls_io.specs.Lines.{part_bytes}
use Rattle.jls_io.proofs.line.print_line.Given as goal

-- the parts so far are handed out but for what waits
abbrev pub invariant-loop-part : goal.invariant-loop-part
invariant-loop-part g l =
    HandedBut (flat_map part_bytes (take l.part-index l.parts)) l.pending.went l.pending.bytes.items (g.E.Device.history l.fn.faults)
    (g.E.Device.history l.faults)
