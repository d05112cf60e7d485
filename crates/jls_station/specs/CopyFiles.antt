-- Copies that are read whole, and how one of them stops a command.
use Rattle.std.specs.Prelude.{◌≡◌, ℕ, Bool, true, List, [], ◌∷◌, ◌++◌, map, nat_eq}
use Rattle.std.specs.List.{starts_with}
use Rattle.jls_partial.specs.Text.{magic}
use Rattle.jls_io.specs.Event.{Event, opened, not_opened}
use Rattle.jls_station.specs.Reading.{IsRead, IsReadInPart}
use Rattle.jls_station.specs.declared.input.ReadStop.{ReadStop}
use Rattle.jls_station.specs.declared.copy.CopyFile.{CopyFile}
use Rattle.jls_station.specs.declared.copy.CopyCause.{CopyCause}
use Rattle.jls_station.specs.declared.copy.CopyCause.TheVariants as cause
use Rattle.jls_station.specs.declared.copy.CopyRefusal.{CopyRefusal}

-- ---- one copy

-- whether the bytes begin as each text of a partial picture does: 4A 4C 53 50
abbrev pub begins_as_text : List ℕ → Bool
begins_as_text bytes = starts_with nat_eq bytes magic

-- the bytes begin as the text of a partial picture does, and no more are read
abbrev pub IsTextPrefix : List ℕ → Type 0
IsTextPrefix bytes = begins_as_text bytes ≡ true

-- what was read of a copy, and how its reading stopped
pub record CopyBytes : Type 0 where
  pub bytes : List ℕ
  pub stop : ReadStop

-- a copy of this name was opened and read as far as it went, and it does not begin as a text
pub record IsCopyRead (name : List ℕ) (copy : CopyBytes) (events : List Event) : Type 0 where
  pub reads : List Event
  pub events_are : events ≡ opened name ∷ reads
  pub is_read : IsRead IsTextPrefix reads copy.bytes copy.stop
  pub no_text : IsTextPrefix copy.bytes → ⊥

-- a copy of this name stops a run for this cause. It is not opened, it begins as a text, or memory ran out between two reads or after the
-- last
pub data StopsAtCopy : List ℕ → CopyCause → List Event → Type 0 where
  not_there : (name : List ℕ) → StopsAtCopy name cause.NotOpened (not_opened name ∷ [])
  partial_picture : (name bytes : List ℕ) (stop : ReadStop) (reads : List Event)
      → IsRead IsTextPrefix reads bytes stop → IsTextPrefix bytes → StopsAtCopy name cause.PartialPicture (opened name ∷ reads)
  between_reads : (name : List ℕ) (reads : List Event)
      → IsReadInPart IsTextPrefix reads → StopsAtCopy name cause.OutOfMemory (opened name ∷ reads)
  after_the_last : (name : List ℕ) (copy : CopyBytes) (events : List Event)
      → IsCopyRead name copy events → StopsAtCopy name cause.OutOfMemory events

-- ---- all copies

-- copies of these names were opened and read, one after the other, and this was read of them
abbrev pub AreCopiesRead : List (List ℕ) → List CopyBytes → List Event → Type 0
AreCopiesRead [] [] events = events ≡ []
AreCopiesRead (name ∷ names) (copy ∷ copies) events =
    (mine : List Event) × (more : List Event) × (events ≡ mine ++ more) × IsCopyRead name copy mine × AreCopiesRead names copies more
AreCopiesRead _ _ events = ⊥

-- the copies before one were read. That one stops the run for the cause of the refusal, which has its name. Nothing else was done
pub record StopsAmongCopies (names : List (List ℕ)) (r : CopyRefusal) (events : List Event) : Type 0 where
  pub before : List (List ℕ)
  pub after : List (List ℕ)
  pub among : names ≡ before ++ r.name.now ∷ after
  pub copies : List CopyBytes
  pub reading : List Event
  pub read : AreCopiesRead before copies reading
  pub last : List Event
  pub stops : StopsAtCopy r.name.now r.cause last
  pub events_are : events ≡ reading ++ last

-- ---- as the code has them

-- what was read of a copy, as the code holds it
abbrev pub copy_of : CopyFile → CopyBytes
copy_of c = record { bytes = c.bytes.items; stop = c.stop }

-- what was read of copies, as the code holds them
abbrev pub copies_of : List CopyFile → List CopyBytes
copies_of cs = map copy_of cs
