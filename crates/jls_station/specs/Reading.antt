-- How an input is read: as long as there is reason to, and no longer.
use Rattle.std.specs.Prelude.{◌≡◌, ◌⊎◌, ℕ, ◌<◌, ◌≤◌, true, List, [], ◌∷◌, ◌++◌, length, filter}
use Rattle.std.specs.List.{list_any}
use Rattle.jls_io.specs.Event.{Event, gave, read_failed, bytes_given, is_failure, is_read}
use Rattle.jls_station.specs.declared.input.ReadStop.{ReadStop}
use Rattle.jls_station.specs.declared.input.ReadStop.TheVariants.{Whole, Failed, Turns}
use Rattle.jls_marker.specs.SegmentLaws.{AreBytes}

-- IsEnough says of the bytes that an input gave so far whether any more are wanted

-- reads of at most 4096 bytes. Each gave some bytes, and those given before it, with these at the start, were not enough
abbrev pub GoesOn : (List ℕ → Type 0) → List ℕ → List Event → Type 0
GoesOn IsEnough fed [] = Unit {0}
GoesOn IsEnough fed (gave room bytes ∷ more) =
    (room ≤ 4096) × (0 < length bytes) × (IsEnough fed → ⊥) × GoesOn IsEnough (fed ++ bytes) more
GoesOn IsEnough fed (_ ∷ more) = ⊥

-- why no read follows after these bytes, and the read that shows it, if there is one. The bytes are enough, a read with room met the end, a
-- read failed, or the reads are used up
abbrev pub StopsWith : (List ℕ → Type 0) → List ℕ → List Event → ReadStop → Type 0
StopsWith IsEnough bytes [] Whole = IsEnough bytes
StopsWith IsEnough bytes [] Turns = IsEnough bytes → ⊥
StopsWith IsEnough bytes (gave room [] ∷ []) Whole = (0 < room) × (room ≤ 4096) × (IsEnough bytes → ⊥)
StopsWith IsEnough bytes (read_failed ∷ []) Failed = IsEnough bytes → ⊥
StopsWith IsEnough bytes _ _ = ⊥

-- all reads of one input, the bytes that they gave, and how they stopped
pub record IsRead (IsEnough : List ℕ → Type 0) (reads : List Event) (bytes : List ℕ) (stop : ReadStop) : Type 0 where
  pub on : List Event
  pub last : List Event
  pub reads_are : reads ≡ on ++ last
  pub goes_on : GoesOn IsEnough [] on
  pub bytes_are : bytes ≡ bytes_given on
  pub are_bytes : AreBytes bytes
  pub stops : StopsWith IsEnough bytes last stop
  pub at_most : length reads ≤ 4294967295
  pub used_up : stop ≡ Turns → length reads ≡ 4294967295

-- so many reads gave these bytes, and each gave some while what was given before was not enough
pub record ReadSoFar (IsEnough : List ℕ → Type 0) (count : ℕ) (bytes : List ℕ) (reads : List Event) : Type 0 where
  pub goes_on : GoesOn IsEnough [] reads
  pub bytes_are : bytes ≡ bytes_given reads
  pub are_bytes : AreBytes bytes
  pub number : length reads ≡ count

-- an input was read so far, each read gave some bytes, and there was reason to go on
abbrev pub IsReadInPart : (List ℕ → Type 0) → List Event → Type 0
IsReadInPart IsEnough reads = GoesOn IsEnough [] reads × (length reads ≤ 4294967295)

-- a device failed; or so many reads were made as one input can have
abbrev pub HadFailure : List Event → Type 0
HadFailure events = (list_any is_failure events ≡ true) ⊎ (4294967295 ≤ length (filter is_read events))
