-- What an input gives, and why one is refused.
use Rattle.std.specs.Prelude.{◌≡◌, ℕ, true, false, List, length, Option}
use Rattle.jls_marker.specs.declared.fault.MarkerFault.{MarkerFault}
use Rattle.jls_partial.specs.declared.text_fault.TextFault.{TextFault}
use Rattle.jls_copy.specs.CopyReads.{CopyGivesNone, IsDone}
use Rattle.jls_copy.specs.declared.reader.CopyFault.TheVariants.{NoPicture}
use Rattle.jls_io.specs.Event.{Event}
use Rattle.jls_station.specs.Given.{Given, Gives}
use Rattle.jls_station.specs.Reading.{IsRead, IsReadInPart}
use Rattle.jls_station.specs.Texts.{is_text, IsNoText}
use Rattle.jls_station.specs.declared.input.ReadStop.{ReadStop}
use Rattle.jls_station.specs.declared.input.ReadStop.TheVariants.{Whole}
use Rattle.jls_station.specs.declared.input.InputFault.{InputFault}
use Rattle.jls_station.specs.declared.input.InputFault.TheVariants as fault

-- `source` is the number under which the readings of copies are taken, where there is one

-- no byte more changes what a copy gives
abbrev pub IsCopyDone : List ℕ → Type 0
IsCopyDone bytes = IsDone bytes true

-- the bytes are enough: no byte more changes what the copy gives. A text is read to its end
abbrev pub IsEnough : List ℕ → Type 0
IsEnough bytes = (is_text bytes ≡ false) × IsCopyDone bytes

-- an input that gave these bytes until it stopped so is refused for this fault. A text is refused if it was read to its end and is no text,
-- or if it was not read to its end. A copy is refused if no frame was taken. If it was read whole, it has this fault at this offset. If an
-- input was not read whole, the fault has the stop and the number of bytes before it
pub data IsRefused : List ℕ → ReadStop → InputFault → Type 0 where
  no_text : (bytes : List ℕ) (f : TextFault) → is_text bytes ≡ true → IsNoText bytes f → IsRefused bytes Whole (fault.Text f)
  text_not_read : (bytes : List ℕ) (stop : ReadStop) → is_text bytes ≡ true → (stop ≡ Whole → ⊥)
      → IsRefused bytes stop (fault.Read stop (length bytes))
  no_picture : (bytes : List ℕ) (f : MarkerFault) (offset : ℕ) → is_text bytes ≡ false → CopyGivesNone bytes (NoPicture f offset)
      → IsRefused bytes Whole (fault.NoPicture f offset)
  copy_not_read : (bytes : List ℕ) (stop : ReadStop) (f : MarkerFault) (offset : ℕ) → is_text bytes ≡ false → (stop ≡ Whole → ⊥)
      → CopyGivesNone bytes (NoPicture f offset) → IsRefused bytes stop (fault.Read stop (length bytes))

-- memory can run out for an input that was read so far. It does so between two reads, or after the last for what its bytes give, a whole
-- text or a copy
pub data RunsOutOfMemory : List Event → Type 0 where
  between_reads : (reads : List Event) → IsReadInPart IsEnough reads → RunsOutOfMemory reads
  after_the_last : (bytes : List ℕ) (stop : ReadStop) (reads : List Event) → IsRead IsEnough reads bytes stop
      → (is_text bytes ≡ true → stop ≡ Whole) → RunsOutOfMemory reads

-- these are all reads of an input, and it gives this
pub record ReadsGive (source : Option ℕ) (g : Given) (reads : List Event) : Type 0 where
  pub bytes : List ℕ
  pub is_read : IsRead IsEnough reads bytes g.stop
  pub gives : Gives source bytes g

-- these are all reads of an input, and it is refused for this fault; or memory ran out after so many of them
pub data ReadsRefuse : InputFault → List Event → Type 0 where
  for_fault : (f : InputFault) (bytes : List ℕ) (stop : ReadStop) (reads : List Event)
      → IsRead IsEnough reads bytes stop → IsRefused bytes stop f → ReadsRefuse f reads
  for_memory : (reads : List Event) → RunsOutOfMemory reads → ReadsRefuse fault.OutOfMemory reads
