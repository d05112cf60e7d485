-- Lists of source numbers as they are lent and written.
use Rattle.std.specs.Prelude.{ℕ, ◌<◌, ◌^◌, List}
use Rattle.std.specs.List.{AllByRecursion}
use Rattle.std.specs.List.Sorted.{IsStrictlySortedBy}
use Rattle.std.specs.Ordering.{nat_cmp}

-- source numbers as they are lent and written: in ascending order, each once, each below 2^32
pub record IsSourceList (numbers : List ℕ) : Type 0 where
  pub sorted : IsStrictlySortedBy nat_cmp numbers
  pub small : AllByRecursion (λ number. number < 2 ^ 32) numbers
