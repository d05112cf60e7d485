-- What a machine was asked, and the files that it opened.
use Rattle.std.specs.Prelude.{ℕ, List}
use Rattle.jls_host.specs.Disk.{Call}
use Rattle.jls_host.specs.declared.recorded.Recorded.{Recorded}
use Rattle.jls_host.specs.declared.recorded.Held.{Held}

-- the calls so far
abbrev pub calls_of : {M : Type 0} → Recorded M → List Call
calls_of machine = machine.calls.calls

-- the number of a file that was opened
abbrev pub number_of : {F : Type 0} → Held F → ℕ
number_of held = held.number
