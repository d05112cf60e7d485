-- Copies and known copies as the code holds them, as lists of bytes.
use Rattle.std.specs.Prelude.{ℕ, List, map}
use Rattle.std.specs.declared.vec.Vec.{Vec}
use Rattle.std.specs.declared.alloc.Global.{Global}
use Rattle.jls_bad.specs.Known.{Copy}
use Rattle.jls_bad.specs.declared.known.Listed.{Listed}

-- a copy, and its bad places
abbrev pub copy_of : Listed → Copy
copy_of listed = record { bytes = listed.bytes.now; places = listed.places.now }

-- copies, each with its bad places
abbrev pub copies_of : List Listed → List Copy
copies_of listed = map copy_of listed

-- the bytes of each
abbrev pub bytes_in : List (Vec ℕ Global) → List (List ℕ)
bytes_in files = map (λ file. file.items) files
