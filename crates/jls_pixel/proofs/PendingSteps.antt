-- How many bits wait.
use Rattle.std.proofs.Common.{◌*◌, ◌≤◌, List, [], ◌∷◌, length, arith, length-append}
use Rattle.jls_bits.specs.Bits.{bits}
use Rattle.jls_bits.proofs.NumberBits.{length-bits}
use Rattle.jls_pixel.specs.PendingBits.{bits_of_all}
use Rattle.jls_pixel.specs.declared.data_bits.DataBits.{DataBits}

-- each byte has at least seven
pub seven_each : (ds : List DataBits) → 7 * length ds ≤ length (bits_of_all ds)
seven_each [] = omega arith
seven_each (d ∷ ds) =
    let a = length-append (bits d.count d.value) (bits_of_all ds) in let b = length-bits d.count d.value in let c = d.at_least in
    let r = seven_each ds in omega (arith, a, b, c, r)
