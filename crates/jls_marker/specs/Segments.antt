-- The segment that a payload is, or its first fault.
use Rattle.std.specs.Prelude.{ℕ, ◌%◌, Bool, ◌||◌, ◌==◌, not, List, [], ◌∷◌, length, map, is_ok, Option, Some, None, Result}
use Rattle.std.specs.Prelude.{Ok, Err, if◌then◌else◌}
use Rattle.std.specs.List.{list_all}
use Rattle.jls_values.specs.Shape.{PictureShape, has_repeat}
use Rattle.jls_values.specs.ShapeOf.{shape_of}
use Rattle.jls_marker.specs.MarkerCodes.{sof55, sos, lse, dri, is_skipped}
use Rattle.jls_marker.specs.Faults.{first_failing}
use Rattle.jls_values.specs.PresetParameters.{PresetParameters}
use Rattle.jls_marker.specs.Profiles.{takes_interleave}
use Rattle.jls_marker.specs.ScanSelection.{ScanSelection}
use Rattle.jls_marker.specs.Layouts.{FrameHeader, frame_header, ScanHeader, scan_header, preset_parameters, restart_interval}
use Rattle.jls_marker.specs.declared.fault.MarkerFault.{MarkerFault}
use Rattle.jls_marker.specs.declared.fault.MarkerFault.TheVariants as fault
use Rattle.jls_marker.specs.declared.profile.Profile.{Profile}
use Rattle.jls_marker.specs.declared.profile.Profile.TheVariants.{Strict}
use Rattle.jls_marker.specs.declared.segment.Segment.{Segment}
use Rattle.jls_marker.specs.declared.segment.Segment.TheVariants as segment

-- the identifiers in a frame header
abbrev pub frame_ids : FrameHeader → List ℕ
frame_ids h = map (λ c. c.id) h.components

-- the shape that a frame header gives
abbrev pub shape_in : FrameHeader → PictureShape
shape_in h = record { precision = h.precision; width = h.width; height = h.height; ids = frame_ids h }

-- the tests of a frame header, each with its fault, in order: the shape, then the sampling of each component. Tq is free
abbrev pub frame_tests : FrameHeader → List (Bool × MarkerFault)
frame_tests h =
    (is_ok (shape_of h.precision h.width h.height (frame_ids h)), fault.BadShape)
    ∷ (list_all (λ c. c.sampling == 0x11) h.components, fault.Sampling)
    ∷ []

-- the frame segment of a frame header, or its first fault
abbrev pub frame_of : Option FrameHeader → Result Segment MarkerFault
frame_of None = Err fault.Length
frame_of (Some h) = first_failing (frame_tests h) (segment.Frame (shape_in h))

-- the identifiers in a scan header
abbrev pub scan_ids : ScanHeader → List ℕ
scan_ids h = map (λ c. c.id) h.components

-- the selection that a scan header gives
abbrev pub selection_in : ScanHeader → ScanSelection
selection_in h = record { ids = scan_ids h; line = h.interleave == 1; by_sample = h.interleave == 2 }

-- the tests of a scan header under a profile, each with its fault, in order: identifiers, mapping tables, NEAR, ILV and Al. Ah is free
abbrev pub scan_tests : Profile → ScanHeader → List (Bool × MarkerFault)
scan_tests profile h =
    (not (has_repeat (scan_ids h)), fault.RepeatedComponent)
    ∷ (list_all (λ c. c.table == 0) h.components, fault.MappingTable)
    ∷ (h.near == 0, fault.Lossy)
    ∷ (takes_interleave profile (length h.components) h.interleave, fault.Interleave)
    ∷ (h.approximation % 16 == 0, fault.PointTransform)
    ∷ []

-- the scan segment of a scan header under a profile, or its first fault
abbrev pub scan_of : Profile → Option ScanHeader → Result Segment MarkerFault
scan_of profile None = Err fault.Length
scan_of profile (Some h) = first_failing (scan_tests profile h) (segment.Scan (selection_in h))

-- the segment of the five values of an LSE of ID 1, or its fault (T.87 C.2.4.1)
abbrev pub preset_of : Option PresetParameters → Result Segment MarkerFault
preset_of None = Err fault.Length
preset_of (Some p) = Ok (segment.Preset p.maxval p.t1 p.t2 p.t3 p.reset)

-- the segment of an LSE payload, or its first fault. IDs 2 and 3, mapping tables, are skipped (T.87 C.2.4.1)
abbrev pub lse_of : List ℕ → Result Segment MarkerFault
lse_of [] = Err fault.Length
lse_of (id ∷ values) =
    if id == 1 then preset_of (preset_parameters values)
    else first_failing (((id == 2) || (id == 3), fault.LseId) ∷ []) (segment.Skipped lse)

-- the segment of DRI, or its fault (T.81 B.2.4.4; T.87 C.2.5)
abbrev pub restart_of : Option ℕ → Result Segment MarkerFault
restart_of None = Err fault.Length
restart_of (Some n) = Ok (segment.Restart n)

-- the segment of a code and a payload under a profile
abbrev pub segment_under : Profile → ℕ → List ℕ → Result Segment MarkerFault
segment_under profile code payload =
    if code == sof55 then frame_of (frame_header payload)
    else if code == sos then scan_of profile (scan_header payload)
    else if code == lse then lse_of payload
    else if code == dri then restart_of (restart_interval payload)
    else if is_skipped code then Ok (segment.Skipped code)
    else Err fault.UnknownMarker

-- the segment of a code and a payload under the strict profile
abbrev pub segment_of : ℕ → List ℕ → Result Segment MarkerFault
segment_of code payload = segment_under Strict code payload
