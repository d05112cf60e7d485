-- Bytes that a reader takes at once. It concerns no caller.
use Rattle.std.specs.Prelude.{◌≡◌, ℕ, ◌+◌, ◌-◌, ◌<◌, ◌≤◌, ◌≢◌, List, [], ◌∷◌, ◌++◌, length, take, slice_index, Option}
use Rattle.jls_values.specs.Shape.{PictureShape}
use Rattle.jls_marker.specs.HeaderState.{HeaderState}
use Rattle.jls_copy.specs.Pieces.{FoundPiece}
use Rattle.jls_copy.specs.ReaderState.{ReaderState, reading_from, class_of, closed_by}
use Rattle.jls_copy.specs.Sound.{IsPlace}
use Rattle.jls_copy.specs.declared.place.CopyPosition.{CopyPosition}
use Rattle.jls_copy.specs.declared.place.CopyPosition.TheVariants.{InScan}
use Rattle.jls_copy.specs.declared.scan.ByteClass.TheVariants as class
use Rattle.jls_copy.specs.declared.scan.OpenScan.{OpenScan}
use Rattle.jls_copy.specs.declared.scan.ScanStep.{ScanStep}
use Rattle.jls_copy.specs.declared.scan.ScanStep.TheVariants.{Data, Restart, End}

-- no byte of 0x80 or more follows a byte 0xFF, and the last byte isn't 0xFF: nothing in these bytes can cut scan data
abbrev pub IsStretch : List ℕ → Type 0
IsStretch [] = Unit {0}
IsStretch (b ∷ []) = b ≢ 0xFF
IsStretch (b ∷ c ∷ more) = (b ≡ 0xFF → c < 0x80) × IsStretch (c ∷ more)

-- byte after byte these bytes lead from one place to another, leave payload and headers as they are and close no piece, whatever was read
-- before
abbrev pub LeadsTo : CopyPosition → List ℕ → CopyPosition → Type 0
LeadsTo from bytes to =
    (payload : List ℕ) (count : ℕ) (h : HeaderState) (ps : List FoundPiece)
    → reading_from (record { state = record { count = count; place = from; headers = h; payload = payload }; pieces = ps }) bytes
    ≡ record { state = record { count = count + length bytes; place = to; headers = h; payload = payload }; pieces = ps }

-- byte after byte these bytes lead from one state to another, but for its count, and close these pieces, whatever pieces there were before
abbrev pub BytesLead : ReaderState → List ℕ → ReaderState → List FoundPiece → Type 0
BytesLead from bytes to closed =
    (ps : List FoundPiece) → reading_from (record { state = from; pieces = ps }) bytes
    ≡ record { state = record to { count = from.count + length bytes }; pieces = ps ++ closed }

-- A scan took so many bytes at the start of these as data or as what may be fill
pub record TakesData (old : OpenScan) (bytes : List ℕ) (new : OpenScan) (count : ℕ) : Type 0 where
  pub some : 0 < count
  pub within : count ≤ length bytes
  pub leads : LeadsTo (InScan old) (take count bytes) (InScan new)
  pub closes_none : closed_by (class_of old.held (slice_index bytes 0)) old ≡ []
  pub sound : (frame : Option PictureShape) (payload : List ℕ) → IsPlace frame (InScan old) payload → IsPlace frame (InScan new) payload

-- what comes of the first of these bytes in a scan, or of more of them
abbrev pub TakesStep : OpenScan → List ℕ → OpenScan → ScanStep → Type 0
TakesStep old bytes new (Data count) = TakesData old bytes new count
TakesStep old bytes new (Restart mark) =
    (new ≡ old) × (class_of old.held (slice_index bytes 0) ≡ class.Mark) × (mark ≡ slice_index bytes 0 - 0xD0) × (mark < 8)
TakesStep old bytes new End = (new ≡ old) × (class_of old.held (slice_index bytes 0) ≡ class.Stop)
