use Rattle.std.proofs.Common.{◌≡◌, drop}
use Rattle.jls_bad.specs.Inside.{first_as_long}
use Rattle.jls_bad.proofs.filling.first_byte.Given as goal

abbrev pub invariant-loop-copy : goal.invariant-loop-copy
invariant-loop-copy l = first_as_long l.copies l.count l.offset ≡ first_as_long (drop l.copy-index l.copies) l.count l.offset
