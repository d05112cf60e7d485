-- The laws of segments: layouts and their readings agree, and what is written reads back.
use Rattle.std.specs.Prelude.{◌≡◌, ℕ, ◌<◌, false, List, Some, Ok, Err, ◌↔◌}
use Rattle.std.specs.List.{AllByRecursion}
use Rattle.jls_marker.specs.MarkerCodes.{has_segment}
use Rattle.jls_values.specs.PresetParameters.{PresetParameters}
use Rattle.jls_marker.specs.Layouts.{FrameHeader, HasFrameLayout, frame_header, ScanHeader, HasScanLayout, scan_header, HasPresetLayout}
use Rattle.jls_marker.specs.Layouts.{preset_parameters, HasRestartLayout, restart_interval}
use Rattle.jls_marker.specs.Segments.{segment_of, segment_under}
use Rattle.jls_marker.specs.Payloads.{IsPayload, IsPayloadUnder}
use Rattle.jls_marker.specs.Written.{payload_of, code_of, CanBeWritten, IsSegment, IsSegmentUnder}
use Rattle.jls_marker.specs.declared.fault.MarkerFault.TheVariants.{UnknownMarker}
use Rattle.jls_marker.specs.declared.profile.Profile.{Profile}
use Rattle.jls_marker.specs.declared.segment.Segment.{Segment}

-- a list of bytes
abbrev pub AreBytes : List ℕ → Type 0
AreBytes bytes = AllByRecursion (λ b. b < 256) bytes

-- a payload has at most one layout of its segment, and that is the one which is read. If it has none, none is read
pub record LayoutsAreRead : Type 0 where
  pub frame : (payload : List ℕ) (h : FrameHeader) → AreBytes payload → (frame_header payload ≡ Some h) ↔ HasFrameLayout payload h
  pub scan : (payload : List ℕ) (h : ScanHeader) → AreBytes payload → (scan_header payload ≡ Some h) ↔ HasScanLayout payload h
  pub preset : (values : List ℕ) (p : PresetParameters) → AreBytes values → (preset_parameters values ≡ Some p) ↔ HasPresetLayout values p
  pub restart : (payload : List ℕ) (n : ℕ) → AreBytes payload → (restart_interval payload ≡ Some n) ↔ HasRestartLayout payload n

-- a payload is read as a segment if and only if it is a payload of this segment
abbrev pub PayloadsAreRead : Type 0
PayloadsAreRead = (code : ℕ) (payload : List ℕ) (s : Segment) → AreBytes payload
    → (segment_of code payload ≡ Ok s) ↔ IsPayload code payload s

-- the same under each profile
abbrev pub PayloadsAreReadUnder : Profile → Type 0
PayloadsAreReadUnder profile = (code : ℕ) (payload : List ℕ) (s : Segment) → AreBytes payload
    → (segment_under profile code payload ≡ Ok s) ↔ IsPayloadUnder profile code payload s

-- what is written of a segment reads as this segment
abbrev pub WrittenReadsBack : Type 0
WrittenReadsBack = (s : Segment) → IsSegment s → CanBeWritten s → segment_of (code_of s) (payload_of s) ≡ Ok s

-- the same under each profile
abbrev pub WrittenReadsBackUnder : Profile → Type 0
WrittenReadsBackUnder profile = (s : Segment) → IsSegmentUnder profile s → CanBeWritten s
    → segment_under profile (code_of s) (payload_of s) ≡ Ok s

-- a code is unknown if and only if it has no segment, whatever the payload
abbrev pub UnknownCodes : Type 0
UnknownCodes = (code : ℕ) (payload : List ℕ) → (segment_of code payload ≡ Err UnknownMarker) ↔ (has_segment code ≡ false)

-- the same under each profile
abbrev pub UnknownCodesUnder : Profile → Type 0
UnknownCodesUnder profile = (code : ℕ) (payload : List ℕ)
    → (segment_under profile code payload ≡ Err UnknownMarker) ↔ (has_segment code ≡ false)
