-- What became of a JPEG-LS file that wasn't handed out whole.
use Rattle.std.specs.Prelude.{◌≡◌, ℕ, ◌+◌, ◌<◌, List, Option, length, take}
use Rattle.jls_io.specs.Event.{History}
use Rattle.jls_write.specs.Outcomes.{HandedOut, HandedPrefix, StoppedBy}
use Rattle.jls_write.specs.declared.output.OutputFault.{OutputFault}
use Rattle.jls_write.specs.declared.output.OutputFault.TheVariants.{Write, OutOfMemory}

-- so many of the bytes went out, from the first on and not all, by writes, none of which failed, and nothing else
pub record HandedPart (old new : History) (held holds : Option (List ℕ)) (bytes : List ℕ) (count : ℕ) : Type 0 where
  pub out : HandedOut old new held holds (take count bytes)
  pub not_all : count < length bytes

-- a write failed, or there was no memory. The fault says how many bytes had gone out, with those that had gone out before these
abbrev pub StopsIn : OutputFault → ℕ → History → History → Option (List ℕ) → Option (List ℕ) → List ℕ → Type 0
StopsIn (Write count) before old new held holds bytes = StoppedBy (Write count) before (HandedPrefix old new held holds bytes)
StopsIn (OutOfMemory count) before old new held holds bytes = (n : ℕ) × (count ≡ before + n) × HandedPart old new held holds bytes n
