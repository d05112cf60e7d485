use Rattle.std.proofs.Common.{List, ℕ, ◌++◌}
use Rattle.std.specs.List.{flat_map}
use Rattle.jls_io.specs.Event.{History}
use Rattle.jls_io.specs.Handing.{HandedBut}
use Rattle.jls_io.specs.Names.{shown_bytes}
use Rattle.jls_io.proofs.names.put_name.Given as goal

-- the characters of the name so far are handed out but for what waits
abbrev pub invariant-loop-c : goal.invariant-loop-c
invariant-loop-c g l =
    (line : List ℕ) (before : History) → HandedBut line l.fn.pending.went l.fn.pending.bytes.items before (g.E.Device.history l.fn.faults)
    → HandedBut (line ++ flat_map shown_bytes l.yielded) l.pending.went l.pending.bytes.items before (g.E.Device.history l.faults)
