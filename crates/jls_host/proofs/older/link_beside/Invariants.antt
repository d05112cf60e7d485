use Rattle.std.proofs.Common.{Option}
use Rattle.jls_host.specs.Disk.{Content, Went}
use Rattle.jls_host.specs.Moments.{Shows}
use Rattle.jls_host.specs.Steps.{Beside, Steady}
use Rattle.jls_host.specs.Recorded.{calls_of}
use Rattle.jls_host.proofs.older.link_beside.Given as goal

-- no name was given so far, and the name is steady
abbrev pub invariant-loop-number : goal.invariant-loop-number
invariant-loop-number g l =
    (x : Option Content) (held : Option Beside) → Went (Steady l.name x held) (Shows l.name x) (Steady l.name x held)
    (calls_of l.fn.machine) (calls_of l.machine)
