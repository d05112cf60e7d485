-- Files in memory.
use Rattle.std.specs.Prelude.{ℕ, List, Option, option_map}
use Rattle.std.specs.List.{find}
use Rattle.std.specs.Str.{bytes_eq}

-- a file by its name: an input or an output
pub record File : Type 0 where
  pub name : List ℕ
  pub bytes : List ℕ

-- the bytes of the first file of this name, if there is one
abbrev pub bytes_named : List ℕ → List File → Option (List ℕ)
bytes_named name files = option_map (λ f. f.bytes) (find (λ f. bytes_eq f.name name) files)
