-- What the inputs of a desk give, by its events.
use Rattle.std.specs.Prelude.{◌≡◌, ℕ, List, [], ◌∷◌, drop, take, Some, None}
use Rattle.jls_io.specs.Event.{Event, opened, not_opened, gave, read_failed}
use Rattle.jls_memory.specs.Files.{File, bytes_named}

-- Reads give these inputs, where at first `left` is left of the one that is open, and `rest` after all events. An input is opened
-- if there is one of its name, and all of it is left then. A read gives as much of what is left as it has room for, and none fails
abbrev pub Reads : List File → List ℕ → List ℕ → List Event → Type 0
Reads inputs left rest [] = left ≡ rest
Reads inputs left rest (opened name ∷ more) = (bytes : List ℕ) × (bytes_named name inputs ≡ Some bytes) × Reads inputs bytes rest more
Reads inputs left rest (not_opened name ∷ more) = (bytes_named name inputs ≡ None) × Reads inputs left rest more
Reads inputs left rest (gave room bytes ∷ more) = (bytes ≡ take room left) × Reads inputs (drop room left) rest more
Reads inputs left rest (read_failed ∷ more) = ⊥
Reads inputs left rest (e ∷ more) = Reads inputs left rest more

-- so it is of a desk of which no input was open at first
abbrev pub ReadsComeFrom : List File → List Event → Type 0
ReadsComeFrom inputs events = (rest : List ℕ) × Reads inputs [] rest events
