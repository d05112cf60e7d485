-- What the outputs of a desk hold, by its events.
use Rattle.std.specs.Prelude.{ℕ, List, [], ◌∷◌, ◌++◌}
use Rattle.jls_io.specs.Event.{Event, created, bytes_taken_by}
use Rattle.jls_memory.specs.Files.{File}

-- what writes took before the next output was created
abbrev pub taken_first : List Event → List ℕ
taken_first [] = []
taken_first (created name ∷ more) = []
taken_first (e ∷ more) = bytes_taken_by e ++ taken_first more

-- each output that was created, in order, with what writes took from there until the next one was created
abbrev pub outputs_of : List Event → List File
outputs_of [] = []
outputs_of (created name ∷ more) = record { name = name; bytes = taken_first more } ∷ outputs_of more
outputs_of (e ∷ more) = outputs_of more
