use Rattle.std.proofs.Common.{◌≡◌, ◌++◌, length}
use Rattle.jls_pixel.specs.PendingBits.{bits_of_all}
use Rattle.jls_pixel.proofs.pending_bits.fill.Given as goal

abbrev pub invariant-bytes : goal.invariant-bytes
invariant-bytes l = l.first ++ bits_of_all l.after.items ≡ l.initial.first ++ bits_of_all l.initial.after.items

abbrev pub decreases-bytes : goal.decreases-bytes
decreases-bytes l = length l.after.items
