-- The laws of the state of the headers, for the layer that reads a whole copy.
use Rattle.std.specs.Prelude.{◌≡◌, ℕ, ◌+◌, ◌≤◌, List, map, Option, Some, None, Ok, Err}
use Rattle.jls_values.specs.Shape.{PictureShape}
use Rattle.jls_values.specs.ParamsOf.{params_of}
use Rattle.jls_marker.specs.ComponentIndex.{index_of}
use Rattle.jls_marker.specs.Scan.{Scan, IsScan, IsScanOf, PartTheLines}
use Rattle.jls_marker.specs.HeaderState.{HeaderState, IsHeaderState, no_headers}
use Rattle.jls_marker.specs.Headers.{headers_after}
use Rattle.jls_values.specs.PresetParameters.{PresetParameters}
use Rattle.jls_marker.specs.ScanSelection.{ScanSelection}
use Rattle.jls_marker.specs.SegmentLaws.{AreBytes}
use Rattle.jls_marker.specs.Segments.{segment_under}
use Rattle.jls_marker.specs.declared.fault.MarkerFault.TheVariants.{Ended}
use Rattle.jls_marker.specs.declared.segment.Segment.{Segment}
use Rattle.jls_marker.specs.declared.segment.Segment.TheVariants as segment

-- a frame that was taken stays
abbrev pub FrameStays : Type 0
FrameStays = (h after : HeaderState) (code : ℕ) (payload : List ℕ) (scan : Option Scan) (f : PictureShape)
    → headers_after h code payload ≡ Ok (after, scan) → h.frame ≡ Some f → after.frame ≡ Some f

-- a scan begins under a frame alone, and changes nothing but the number of scans
pub record Begins (h after : HeaderState) (scan : Scan) : Type 0 where
  pub frame : PictureShape
  pub framed : h.frame ≡ Some frame
  pub counted : after ≡ record h { scans = h.scans + 1 }
  pub is_of_frame : IsScanOf frame scan
  pub restart_interval : scan.restart_interval ≡ h.restart_interval

-- a scan that begins does so under a frame, and counts one
abbrev pub ScansBegin : Type 0
ScansBegin = (h after : HeaderState) (code : ℕ) (payload : List ℕ) (scan : Scan) → headers_after h code payload ≡ Ok (after, Some scan)
    → Begins h after scan

-- headers are in their ranges before the first segment, and after each that is taken, if its payload consists of bytes
abbrev pub HeadersStayInRange : Type 0
HeadersStayInRange = IsHeaderState no_headers
    × ((h after : HeaderState) (code : ℕ) (payload : List ℕ) (scan : Option Scan) → IsHeaderState h → AreBytes payload
    → headers_after h code payload ≡ Ok (after, scan) → IsHeaderState after)

-- a scan that begins is in its ranges, if the headers before it are in theirs and the payload consists of bytes
abbrev pub ScansAreInRange : Type 0
ScansAreInRange = (h after : HeaderState) (code : ℕ) (payload : List ℕ) (scan : Scan) → IsHeaderState h → AreBytes payload
    → headers_after h code payload ≡ Ok (after, Some scan) → IsScan scan

-- other segments leave the number of scans as it is
abbrev pub OthersCountNone : Type 0
OthersCountNone = (h after : HeaderState) (code : ℕ) (payload : List ℕ) → headers_after h code payload ≡ Ok (after, None)
    → after.scans ≡ h.scans

-- a complete segment is never refused because it ends too early
abbrev pub NeverEnded : Type 0
NeverEnded = (h : HeaderState) (code : ℕ) (payload : List ℕ) → headers_after h code payload ≡ Err Ended → ⊥

-- the intervals of a scan divide its lines
abbrev pub IntervalsPartTheLines : Type 0
IntervalsPartTheLines = (s : Scan) → 1 ≤ s.height → PartTheLines s

-- ---- what is in force after a segment

-- the restart interval that a segment sets: that of DRI, or none (T.81 B.2.4.4; T.87 C.2.5)
abbrev pub interval_in : Segment → Option ℕ
interval_in (segment.Restart n) = Some n
interval_in _ = None

-- the preset values that a segment sets: those of LSE of ID 1, or none (T.87 C.2.4.1.1)
abbrev pub presets_in : Segment → Option PresetParameters
presets_in (segment.Preset maxval t1 t2 t3 reset) = Some (record { maxval = maxval; t1 = t1; t2 = t2; t3 = t3; reset = reset })
presets_in _ = None

-- the frame that a segment sets: that of SOF55, or none (T.87 C.2.2)
abbrev pub frame_in : Segment → Option PictureShape
frame_in (segment.Frame f) = Some f
frame_in _ = None

-- what a segment sets; or what was, if it sets nothing
abbrev pub newest : {A : Type 0} → Option A → A → A
newest (Some x) was = x
newest None was = was

-- after a segment, the restart interval, the preset values or the frame is the one that it sets. The others are what they were (T.81 B.2.2,
-- B.2.4.4; T.87 C.2.4.1.1, C.2.5)
pub record SetsItsOwn (h after : HeaderState) (s : Segment) : Type 0 where
  pub restart_interval : after.restart_interval ≡ newest (interval_in s) h.restart_interval
  pub preset : after.preset ≡ newest (presets_in s) h.preset
  pub frame : (f : PictureShape) → frame_in s ≡ Some f → after.frame ≡ Some f
  pub no_frame : frame_in s ≡ None → after.frame ≡ h.frame

-- a segment that is taken sets its own value, and leaves the others
abbrev pub SegmentsSetTheirOwn : Type 0
SegmentsSetTheirOwn = (h after : HeaderState) (code : ℕ) (payload : List ℕ) (scan : Option Scan) (s : Segment)
    → segment_under h.profile code payload ≡ Ok s → headers_after h code payload ≡ Ok (after, scan) → SetsItsOwn h after s

-- a scan has the components that its header names, by their places in the frame. Its parameters are those of the frame and the preset
-- values in force. Its restart interval is the one in force. It is interleaved as its header says (T.87 C.2.3, C.2.4.1.1; T.81 B.2.4.4)
pub record HasWhatIsInForce (h : HeaderState) (frame : PictureShape) (s : ScanSelection) (scan : Scan) : Type 0 where
  pub components : scan.components ≡ map (index_of frame.ids) s.ids
  pub params : params_of frame.precision h.preset ≡ Ok scan.params
  pub restart_interval : scan.restart_interval ≡ h.restart_interval
  pub by_sample : scan.by_sample ≡ s.by_sample

-- a scan that begins has what is in force
abbrev pub ScansHaveWhatIsInForce : Type 0
ScansHaveWhatIsInForce = (h after : HeaderState) (code : ℕ) (payload : List ℕ) (scan : Scan)
    → headers_after h code payload ≡ Ok (after, Some scan)
    → (s : ScanSelection) × (segment_under h.profile code payload ≡ Ok (segment.Scan s))
    × ((frame : PictureShape) → h.frame ≡ Some frame → HasWhatIsInForce h frame s scan)
