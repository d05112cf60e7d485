-- What became of a file that was handed to a sink.
use Rattle.std.specs.Prelude.{◌≡◌, ℕ, ◌+◌, List, Option, take}
use Rattle.std.specs.Io.KnownBytes.{Appends}
use Rattle.jls_io.specs.Event.{History, GrewBy}
use Rattle.jls_io.specs.Writing.{Wrote, WrotePrefix}
use Rattle.jls_write.specs.declared.output.OutputFault.{OutputFault}
use Rattle.jls_write.specs.declared.output.OutputFault.TheVariants.{Write, OutOfMemory}

-- all of the bytes went out, by writes and nothing else, and what the sink holds grew by them if that is known
pub record HandedOut (old new : History) (held holds : Option (List ℕ)) (bytes : List ℕ) : Type 0 where
  pub wrote : GrewBy (Wrote bytes) old new
  pub holds_them : Appends held holds bytes

-- so many of the bytes went out, from the first on and not all; then a write failed, and nothing else was done
pub record HandedPrefix (old new : History) (held holds : Option (List ℕ)) (bytes : List ℕ) (count : ℕ) : Type 0 where
  pub wrote : GrewBy (WrotePrefix bytes count) old new
  pub holds_them : Appends held holds (take count bytes)

-- a write failed, and the fault says how many bytes had gone out, with so many that had gone out before these
abbrev pub StoppedBy : OutputFault → ℕ → (ℕ → Type 0) → Type 0
StoppedBy (Write count) before Prefix = (n : ℕ) × (count ≡ before + n) × Prefix n
StoppedBy (OutOfMemory count) before Prefix = ⊥
