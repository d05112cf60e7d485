-- What contracts see of a reader of one Golomb code.
use Rattle.std.specs.Prelude.{ℕ, Bool, List}

-- what contracts see of a `GolombReader`: k, g, qbpp, and the bits pushed
pub record GolombBits : Type 0 where
  pub k : ℕ
  pub g : ℕ
  pub qbpp : ℕ
  pub pushed : List Bool
