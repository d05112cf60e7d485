use Rattle.std.proofs.Common.{◌≡◌, ◌++◌, take}
use Rattle.jls_diff.specs.Parts.{made}
use Rattle.jls_diff.specs.PartsOf.{parts_of}
use Rattle.jls_diff.proofs.checking.makes.Given as goal

abbrev pub invariant-loop-part : goal.invariant-loop-part
invariant-loop-part l = l.fn.bytes ≡ made l.copy (parts_of (take l.part-index l.parts)) ++ l.rest
