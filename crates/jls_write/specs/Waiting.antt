-- Words of the crate's own functions: bytes that wait before a sink, and the columns of the lines of a row.
use Rattle.std.specs.Prelude.{◌≡◌, ℕ, ◌+◌, ◌<◌, ◌≤◌, Bool, false, List, [], ◌++◌, length, get_or, Option}
use Rattle.std.specs.List.{flat_map}
use Rattle.jls_io.specs.Event.{History}
use Rattle.jls_write.specs.Outcomes.{HandedOut}
use Rattle.jls_write.specs.Pnm.{sample_bytes}

-- Bytes were put after those that waited, with so many gone out before; the prefix of all of them went out, and the rest waits
pub record PutAfter (old new : History) (held holds : Option (List ℕ)) (waited : List ℕ) (before : ℕ) (waits : List ℕ) (gone : ℕ)
    (bytes : List ℕ) : Type 0 where
  pub out : List ℕ
  pub all : waited ++ bytes ≡ out ++ waits
  pub counted : gone ≡ before + length out
  pub handed : HandedOut old new held holds out

-- the samples of a column, one of each line
abbrev pub column_bytes : Bool → List (List ℕ) → ℕ → List ℕ
column_bytes wide lines column = flat_map (λ line. sample_bytes wide (get_or line column 0)) lines

-- each line has that many samples at least, and a sample that isn't wide fits a byte
pub record AreLinesTo (wide : Bool) (end : ℕ) (lines : List (List ℕ)) : Type 0 where
  pub few : length lines ≤ 4
  pub reach : (k : ℕ) → k < length lines → end ≤ length (get_or lines k [])
  pub fit : wide ≡ false → (k j : ℕ) → k < length lines → j < end → get_or (get_or lines k []) j 0 < 256
