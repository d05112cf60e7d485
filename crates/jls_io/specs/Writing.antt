-- How bytes are handed to an output.
use Rattle.std.specs.Prelude.{◌≡◌, ℕ, ◌<◌, ◌⊎◌, List, [], ◌∷◌, ◌++◌, length, take}
use Rattle.jls_io.specs.Event.{Event, took, write_failed, bytes_taken}

-- each of these is a write that took some bytes
abbrev pub AreWrites : List Event → Type 0
AreWrites [] = Unit {0}
AreWrites (took bytes ∷ more) = (0 < length bytes) × AreWrites more
AreWrites (_ ∷ more) = ⊥

-- writes took exactly these bytes; there is no write if there are no bytes
pub record Wrote (bytes : List ℕ) (writes : List Event) : Type 0 where
  pub are_writes : AreWrites writes
  pub they_took : bytes_taken writes ≡ bytes

-- writes took so many of the bytes, from the first on, and not all; then one failed, and there was no other
pub record WrotePrefix (bytes : List ℕ) (count : ℕ) (events : List Event) : Type 0 where
  pub writes : List Event
  pub events_are : events ≡ writes ++ write_failed ∷ []
  pub wrote : Wrote (take count bytes) writes
  pub not_all : count < length bytes

-- a line was printed; a write that fails ends it, and is ignored
abbrev pub Printed : List ℕ → List Event → Type 0
Printed line events = Wrote line events ⊎ ((count : ℕ) × WrotePrefix line count events)
