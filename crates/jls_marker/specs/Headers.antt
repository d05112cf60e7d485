-- What the headers so far have set, and the scan that an SOS begins.
use Rattle.std.specs.Prelude.{ℕ, ◌+◌, ◌*◌, ◌^◌, Bool, nat_le, nat_lt, List, [], ◌∷◌, map, length, is_ok, is_none, Option, Some, None}
use Rattle.std.specs.Prelude.{Result, Ok, Err}
use Rattle.std.specs.List.{list_all}
use Rattle.jls_values.specs.Shape.{PictureShape}
use Rattle.jls_values.specs.ParamsOf.{in_force, params_of}
use Rattle.jls_marker.specs.ComponentIndex.{index_of}
use Rattle.jls_marker.specs.Faults.{first_failing}
use Rattle.jls_values.specs.PresetParameters.{PresetParameters}
use Rattle.jls_marker.specs.HeaderState.{HeaderState}
use Rattle.jls_marker.specs.ScanSelection.{ScanSelection}
use Rattle.jls_marker.specs.Scan.{Scan, scan_by, row_count}
use Rattle.jls_marker.specs.Segments.{segment_under}
use Rattle.jls_marker.specs.declared.fault.MarkerFault.{MarkerFault}
use Rattle.jls_marker.specs.declared.fault.MarkerFault.TheVariants as fault
use Rattle.jls_marker.specs.declared.segment.Segment.{Segment}
use Rattle.jls_marker.specs.declared.segment.Segment.TheVariants as segment

-- the scan of these components of the frame, with the parameters in force at its precision (T.87 C.2.3)
abbrev pub scan_in : PictureShape → PresetParameters → ℕ → ScanSelection → Scan
scan_in f preset restart_interval s =
    scan_by s.by_sample f (map (index_of f.ids) s.ids) (in_force f.precision preset) restart_interval

-- the tests of a scan that begins after so many others, in their order. No interval is longer than the first (T.87 C.2)
abbrev pub begin_tests : PictureShape → PresetParameters → ℕ → ℕ → ScanSelection → List (Bool × MarkerFault)
begin_tests f preset restart_interval scans s =
    (list_all (λ id. nat_lt (index_of f.ids id) (length f.ids)) s.ids, fault.UnknownComponent)
    ∷ (is_ok (params_of f.precision preset), fault.BadParams)
    ∷ (nat_le (f.width * length s.ids * row_count (scan_in f preset restart_interval s) 0) (2 ^ 28), fault.IntervalTooLarge)
    ∷ (nat_lt scans 16, fault.TooManyScans)
    ∷ []

-- the scan of a selection under a frame and preset values, or its first fault
abbrev pub scan_judged : PictureShape → PresetParameters → ℕ → ℕ → ScanSelection → Result Scan MarkerFault
scan_judged f preset restart_interval scans s = first_failing (begin_tests f preset restart_interval scans s)
    (scan_in f preset restart_interval s)

-- the scan of a selection under the headers so far, or its fault. Without a frame there is none
abbrev pub scan_under : HeaderState → ScanSelection → Option PictureShape → Result Scan MarkerFault
scan_under h s None = Err fault.NoFrame
scan_under h s (Some f) = scan_judged f h.preset h.restart_interval h.scans s

-- the headers when a scan begins, with that scan, or its fault
abbrev pub begun : HeaderState → Result Scan MarkerFault → Result (HeaderState × Option Scan) MarkerFault
begun h (Ok scan) = Ok (record h { scans = h.scans + 1 }, Some scan)
begun h (Err e) = Err e

-- the headers after a segment, and the scan that it begins; or its fault (T.87 C.2)
abbrev pub accepted : HeaderState → Segment → Result (HeaderState × Option Scan) MarkerFault
accepted h (segment.Frame f) = first_failing ((is_none h.frame, fault.SecondFrame) ∷ []) (record h { frame = Some f }, None)
accepted h (segment.Scan s) = begun h (scan_under h s h.frame)
accepted h (segment.Preset maxval t1 t2 t3 reset) =
    Ok (record h { preset = record { maxval = maxval; t1 = t1; t2 = t2; t3 = t3; reset = reset } }, None)
accepted h (segment.Restart n) = Ok (record h { restart_interval = n }, None)
accepted h (segment.Skipped code) = Ok (h, None)

-- what headers do with a segment, or with the fault of its bytes
abbrev pub taking : HeaderState → Result Segment MarkerFault → Result (HeaderState × Option Scan) MarkerFault
taking h (Ok s) = accepted h s
taking h (Err e) = Err e

-- the same of a whole segment, by its code and its payload, read under the profile of the headers (T.87 C.2)
unfoldable pub headers_after : HeaderState → ℕ → List ℕ → Result (HeaderState × Option Scan) MarkerFault
headers_after h code payload = taking h (segment_under h.profile code payload)
