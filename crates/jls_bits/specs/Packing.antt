-- What a writer's fields hold.
use Rattle.std.specs.Prelude.{◌≡◌, ◌<◌, ◌^◌, Bool, List, ◌++◌}
use Rattle.jls_bits.specs.Bits.{bits, bits_read}
use Rattle.jls_bits.specs.Appending.{last_after, AreFilled}
use Rattle.jls_bits.specs.declared.packing.Packing.{Packing}

-- all bits that were appended: those of the whole bytes, and those after them
unfoldable pub bits_put : Packing → List Bool
bits_put p = bits_read p.bytes.items ++ bits p.count p.waiting

-- the bytes have data bits, and there is place for the bits after them
pub record IsPacking (p : Packing) : Type 0 where
  pub filled : AreFilled p.bytes.items
  pub last : p.last ≡ last_after 0 p.bytes.items
  pub count : p.count < 64
  pub waiting : p.waiting < 2 ^ p.count
