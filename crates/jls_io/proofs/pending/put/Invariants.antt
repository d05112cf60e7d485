use Rattle.std.proofs.Common.{List, ℕ, ◌++◌, take}
use Rattle.jls_io.specs.Event.{History}
use Rattle.jls_io.specs.Handing.{HandedBut}
use Rattle.jls_io.proofs.pending.put.Given as goal

-- the bytes so far are handed out but for what waits
abbrev pub invariant-loop-byte : goal.invariant-loop-byte
invariant-loop-byte g l =
    (line : List ℕ) (before : History)
    → HandedBut line l.initial.pending.went l.initial.pending.bytes.items before (g.E.Device.history l.initial.faults)
    → HandedBut (line ++ take l.byte-index l.byte-items) l.pending.went l.pending.bytes.items before (g.E.Device.history l.faults)
