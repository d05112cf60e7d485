-- What is written of a segment: the marker, the length, and one payload. That Tq and Ah are 0, and Ri has the fewest bytes, is this
-- project's choice.
use Rattle.std.specs.Prelude.{ℕ, ◌+◌, ◌^◌, ◌<◌, nat_lt, List, [], ◌∷◌, ◌++◌, length, drop, if◌then◌else◌}
use Rattle.std.specs.List.{flat_map}
use Rattle.std.specs.Int.{w16, w32, to_be_bytes}
use Rattle.jls_values.specs.Shape.{PictureShape, IsShape}
use Rattle.jls_marker.specs.MarkerCodes.{sof55, sos, lse, dri}
use Rattle.jls_values.specs.PresetParameters.{ArePresetParameters}
use Rattle.jls_marker.specs.Profiles.{IsOfProfile}
use Rattle.jls_marker.specs.ScanSelection.{ScanSelection, IsScanSelection, interleave_of}
use Rattle.jls_marker.specs.Layouts.{preset_bytes}
use Rattle.jls_marker.specs.declared.profile.Profile.{Profile}
use Rattle.jls_marker.specs.declared.profile.Profile.TheVariants.{Strict}
use Rattle.jls_marker.specs.declared.segment.Segment.{Segment}
use Rattle.jls_marker.specs.declared.segment.Segment.TheVariants.{Frame, Scan, Preset, Restart, Skipped}

-- the payload of a frame header that is written: sampling factors 1 by 1, and no quantization table (T.87 C.2.2)
abbrev pub frame_payload : PictureShape → List ℕ
frame_payload s =
    s.precision ∷ (to_be_bytes w16 s.height ++ (to_be_bytes w16 s.width ++ (length s.ids ∷ flat_map (λ id. id ∷ 0x11 ∷ 0 ∷ []) s.ids)))

-- the payload of a scan header that is written: no mapping table, NEAR 0, no point transform (T.87 C.2.3)
abbrev pub scan_payload : ScanSelection → List ℕ
scan_payload s = length s.ids ∷ (flat_map (λ id. id ∷ 0 ∷ []) s.ids ++ (0 ∷ interleave_of s ∷ 0 ∷ []))

-- how many of the four bytes of a number are not written: two, one or none (T.87 C.2.5)
abbrev pub unneeded_bytes : ℕ → ℕ
unneeded_bytes n = if nat_lt n (2 ^ 16) then 2 else if nat_lt n (2 ^ 24) then 1 else 0

-- the payload of DRI: Ri in two, three or four bytes, the fewest that hold it (T.87 C.2.5)
abbrev pub restart_payload : ℕ → List ℕ
restart_payload n = drop (unneeded_bytes n) (to_be_bytes w32 n)

-- the payload that is written of a segment (T.81 B.1.1.4)
abbrev pub payload_of : Segment → List ℕ
payload_of (Frame s) = frame_payload s
payload_of (Scan s) = scan_payload s
payload_of (Preset maxval t1 t2 t3 reset) = 1 ∷ preset_bytes (record { maxval = maxval; t1 = t1; t2 = t2; t3 = t3; reset = reset })
payload_of (Restart n) = restart_payload n
payload_of (Skipped code) = []

-- the marker code of a segment (T.81 B.1.1.4)
abbrev pub code_of : Segment → ℕ
code_of (Frame s) = sof55
code_of (Scan s) = sos
code_of (Preset maxval t1 t2 t3 reset) = lse
code_of (Restart n) = dri
code_of (Skipped code) = code

-- the marker, the length, which counts itself, and the payload (T.81 B.1.1.4)
abbrev pub segment_bytes : ℕ → List ℕ → List ℕ
segment_bytes code payload = 0xFF ∷ code ∷ (to_be_bytes w16 (length payload + 2) ++ payload)

-- a segment that was not skipped: what stood in a skipped one is not kept
abbrev pub CanBeWritten : Segment → Type 0
CanBeWritten (Frame s) = Unit {0}
CanBeWritten (Scan s) = Unit {0}
CanBeWritten (Preset maxval t1 t2 t3 reset) = Unit {0}
CanBeWritten (Restart n) = Unit {0}
CanBeWritten (Skipped code) = ⊥

-- a segment of a profile: a scan is one of the profile, and the others are of both
abbrev pub IsSegmentOfProfile : Profile → Segment → Type 0
IsSegmentOfProfile profile (Scan s) = IsOfProfile profile s
IsSegmentOfProfile profile _ = Unit {0}

-- the ranges that every segment of a profile keeps
abbrev pub IsSegmentUnder : Profile → Segment → Type 0
IsSegmentUnder profile (Frame s) = IsShape s
IsSegmentUnder profile (Scan s) = IsScanSelection s × IsOfProfile profile s
IsSegmentUnder profile (Preset maxval t1 t2 t3 reset) =
    ArePresetParameters (record { maxval = maxval; t1 = t1; t2 = t2; t3 = t3; reset = reset })
IsSegmentUnder profile (Restart n) = n < 2 ^ 32
IsSegmentUnder profile (Skipped code) = code < 2 ^ 8

-- the ranges that every segment of the strict profile keeps
abbrev pub IsSegment : Segment → Type 0
IsSegment s = IsSegmentUnder Strict s
