use Rattle.std.proofs.Common.{◌≡◌, List, ℕ, ◌++◌}
use Rattle.std.specs.List.{flat_map}
use Rattle.std.specs.Char.{encode_utf8}
use Rattle.std.specs.Char.Escape.{escape_unicode}
use Rattle.std.specs.Char.Iter.{escape_rest}
use Rattle.jls_io.specs.Event.{History}
use Rattle.jls_io.specs.Handing.{HandedBut}
use Rattle.jls_io.proofs.names.put_code.Given as goal

-- the characters of the code so far are handed out but for what waits
abbrev pub invariant-loop-part : goal.invariant-loop-part
invariant-loop-part g l = record {
  left : l.yielded ++ escape_rest l.part-iterator ≡ escape_unicode l.fn.c;
  handed : (line : List ℕ) (before : History)
      → HandedBut line l.fn.pending.went l.fn.pending.bytes.items before (g.E.Device.history l.fn.faults)
      → HandedBut (line ++ flat_map encode_utf8 l.yielded) l.pending.went l.pending.bytes.items before (g.E.Device.history l.faults);
}
