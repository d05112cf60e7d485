-- The scans of a copy (T.81 B.1.1, B.2.1; T.87 C.2.1). A copy is SOI, then units: a marker segment, or an SOS with its scan data. It ends
-- where no unit begins: at EOI, at a fault, or with the input. That a fault ends it is this project's choice.
use Rattle.std.specs.Prelude.{◌≡◌, ℕ, ◌+◌, ◌<◌, ◌^◌, Bool, true, false, List, [], ◌∷◌, ◌++◌, length, map, Some, None}
use Rattle.std.specs.List.{AllByRecursion, flat_map}
use Rattle.jls_values.specs.Shape.{PictureShape}
use Rattle.jls_marker.specs.HeaderState.{HeaderState, no_headers}
use Rattle.jls_marker.specs.Scan.{Scan}
use Rattle.jls_copy.specs.ScanData.{fill_bytes, IsClosedPiece, IsPiece}
use Rattle.jls_copy.specs.Course.{LastClosed, by_input, by_marker, CopyUnit, segment, scan, unit_bytes, IsClosing}
use Rattle.jls_copy_laws.specs.SegmentSets.{Sets}

-- After the headers `before` the unit has no fault, and it leaves the headers `after`. If it has scan data, its last piece ends where the
-- bytes `rest` follow (T.81 B.1.1.4, B.2.1)
abbrev pub IsCopyUnit : HeaderState → CopyUnit → HeaderState → List ℕ → Type 0
IsCopyUnit before (segment fill code payload) after rest = (length payload + 2 < 2 ^ 16) × Sets before code payload after None
IsCopyUnit before (scan fill code payload s closed last closing) after rest =
    (length payload + 2 < 2 ^ 16) × Sets before code payload after (Some s)
    × AllByRecursion IsClosedPiece closed × IsPiece last × IsClosing closing rest

-- these bytes begin with no unit
abbrev pub BeginsNoUnit : HeaderState → List ℕ → Type 0
BeginsNoUnit h bytes = (unit : CopyUnit) (after : HeaderState) (rest : List ℕ) → bytes ≡ unit_bytes unit ++ rest
    → IsCopyUnit h unit after rest → ⊥

-- the bytes are these units, one after the other, and then bytes at whose start no unit stands; the last unit leaves the headers `final`
-- (T.81 B.2.1)
abbrev pub AreCopyUnits : HeaderState → List ℕ → List CopyUnit → HeaderState → Type 0
AreCopyUnits h bytes [] final = (final ≡ h) × BeginsNoUnit h bytes
AreCopyUnits h bytes (unit ∷ units) final =
    (after : HeaderState) × (rest : List ℕ) × (bytes ≡ unit_bytes unit ++ rest) × IsCopyUnit h unit after rest
    × AreCopyUnits after rest units final

-- the bytes of a piece of scan data, and whether the input's end is what ends it, complete or not (T.81 B.2.1)
pub record ScanPiece : Type 0 where
  pub bytes : List ℕ
  pub ended_by_input : Bool

-- a scan with its scan data: m of each restart marker RSTm, in order, and the pieces, of which there is one more (T.81 B.2.1)
pub record ScanWithData : Type 0 where
  pub scan : Scan
  pub marks : List ℕ
  pub pieces : List ScanPiece

-- whether the input's end closes scan data
abbrev pub is_by_input : LastClosed → Bool
is_by_input (by_input dropped) = true
is_by_input by_marker = false

-- the scan of a unit, with its scan data; a marker segment alone has none (T.81 B.2.1)
abbrev pub scans_of_unit : CopyUnit → List ScanWithData
scans_of_unit (segment fill code payload) = []
scans_of_unit (scan fill code payload s closed last closing) = record {
  scan = s;
  marks = map (λ c. c.mark) closed;
  pieces = map (λ c. record { bytes = c.piece; ended_by_input = false }) closed
      ++ record { bytes = last; ended_by_input = is_by_input closing } ∷ [];
} ∷ []

-- the copy is a list of bytes with a frame of this shape, and these are its scans. SOI stands before its units, after any number of fill
-- bytes (T.81 B.1.1, B.2.1)
pub record HasScans (copy : List ℕ) (shape : PictureShape) (scans : List ScanWithData) : Type 0 where
  pub are_bytes : AllByRecursion (λ b. b < 256) copy
  pub fill : ℕ
  pub after_soi : List ℕ
  pub copy_is : copy ≡ fill_bytes fill ++ 0xFF ∷ 0xD8 ∷ after_soi
  pub units : List CopyUnit
  pub headers : HeaderState
  pub are_units : AreCopyUnits no_headers after_soi units headers
  pub framed : headers.frame ≡ Some shape
  pub scans_are : scans ≡ flat_map scans_of_unit units
