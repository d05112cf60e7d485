-- The call that a machine made.
use Rattle.jls_host.specs.Disk as disk
use Rattle.jls_host.specs.Disk.{Call}
use Rattle.jls_host.specs.declared.calls.Called.{Called}
use Rattle.jls_host.specs.declared.calls.Called.TheVariants as called

-- what was asked, and the answer
abbrev pub call_of : Called → Call
call_of (called.Plain name answer) = (disk.asks_plain name.now, answer)
call_of (called.Partial name answer) = (disk.asks_partial name.now, answer)
call_of (called.Input name answer) = (disk.asks_input name.now, answer)
call_of (called.Looks name answer) = (disk.looks name.now, answer)
call_of (called.One name other answer) = (disk.asks_one name.now other.now, answer)
call_of (called.Equal name other answer) = (disk.asks_equal name.now other.now, answer)
call_of (called.Makes name i answer) = (disk.makes name.now i, answer)
call_of (called.Empties name i answer) = (disk.empties name.now i, answer)
call_of (called.Links name second answer) = (disk.links name.now second.now, answer)
call_of (called.Copies name i answer) = (disk.copies name.now i, answer)
call_of (called.Writes i bytes answer) = (disk.writes i bytes.now, answer)
call_of (called.Syncs i answer) = (disk.syncs i, answer)
call_of (called.Renames name second answer) = (disk.renames name.now second.now, answer)
call_of (called.Removes name answer) = (disk.removes name.now, answer)
