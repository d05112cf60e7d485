-- The order in which choices are tried.
use Rattle.std.specs.Prelude.{◌≡◌, ℕ, ◌<◌, List, [], ◌∷◌, ◌++◌, ◌⊎◌}

-- choices begin with a path, or come after all that do
abbrev pub IsToCome : List ℕ → List ℕ → Type 0
IsToCome [] choices = Unit {0}
IsToCome (p ∷ path) [] = ⊥
IsToCome (p ∷ path) (choice ∷ choices) = (p < choice) ⊎ ((p ≡ choice) × IsToCome path choices)

-- choices come after all that begin with a path
abbrev pub IsLater : List ℕ → List ℕ → Type 0
IsLater [] choices = ⊥
IsLater (p ∷ path) [] = ⊥
IsLater (p ∷ path) (choice ∷ choices) = (p < choice) ⊎ ((p ≡ choice) × IsLater path choices)

-- the next path begins with the path, and has more choices
abbrev pub Goes : List ℕ → List ℕ → Type 0
Goes path next = (choice : ℕ) × (more : List ℕ) × (next ≡ path ++ choice ∷ more)
