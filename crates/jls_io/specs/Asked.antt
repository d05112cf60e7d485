-- What is known of the names that files were asked for.
use Rattle.std.specs.Prelude.{◌≡◌, ℕ, List, [], ◌∷◌, ◌++◌, Option, Some, None}

-- files are asked to open the input of a name, or to create the output of a name
pub data Request : Type 0 where
  input : List ℕ → Request
  output : List ℕ → Request

-- where it is known what the files were asked for before, they were asked for this too, and for nothing else
abbrev pub AskedOnce : Request → Option (List Request) → Option (List Request) → Type 0
AskedOnce r None asked = Unit {0}
AskedOnce r (Some before) None = ⊥
AskedOnce r (Some before) (Some asked) = asked ≡ before ++ r ∷ []
