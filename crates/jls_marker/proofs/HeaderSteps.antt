-- What a segment that is taken leaves of the headers.
use Rattle.std.proofs.Common.{◌≡◌, ℕ, ◌+◌, ◌*◌, ◌≤◌, ◌^◌, true, false, List, [], ◌∷◌, length, Option, Some, None, Result, Ok, Err, refl}
use Rattle.std.proofs.Common.{sym, ap, subst, ◌∙◌, arith}
use Rattle.std.specs.Prelude.{is_none}
use Rattle.std.proofs.lemmas.Bool.{leb-true}
use Rattle.std.proofs.lemmas.List.{length-map}
use Rattle.jls_values.specs.Shape.{PictureShape, IsShape}
use Rattle.jls_marker.specs.ComponentIndex.{index_of}
use Rattle.jls_marker.specs.HeaderLaws.{Begins}
use Rattle.jls_marker.specs.HeaderState.{HeaderState, IsHeaderState}
use Rattle.jls_marker.specs.Headers.{begin_tests, scan_in, scan_under, scan_judged, begun, accepted, taking, headers_after}
use Rattle.jls_marker.specs.Scan.{Scan, IsScan, IsScanOf, row_count}
use Rattle.jls_marker.specs.ScanSelection.{ScanSelection, IsScanSelection}
use Rattle.jls_marker.specs.SegmentLaws.{AreBytes}
use Rattle.jls_marker.specs.Segments.{segment_under}
use Rattle.jls_marker.specs.declared.fault.MarkerFault.{MarkerFault}
use Rattle.jls_marker.specs.declared.fault.MarkerFault.TheVariants as fault
use Rattle.jls_marker.specs.declared.segment.Segment.{Segment}
use Rattle.jls_marker.specs.declared.segment.Segment.TheVariants as segment
use Rattle.jls_marker.proofs.Beginning.{indices_below, bytes_below}
use Rattle.jls_marker.proofs.FirstFailing.{all_pass, fine, fine_is}
use Rattle.jls_marker.proofs.Intervals.{scan_is}
use Rattle.jls_marker.proofs.ParamRanges.{params_ok}
use Rattle.jls_marker.proofs.SegmentsRead.{is_payload}

abbrev pub After : Type 0
After = HeaderState × Option Scan

-- what is left is determined by its parts
pub parts : (x y : After) → fine x ≡ fine y → (x.0 ≡ y.0) × (x.1 ≡ y.1)
parts x y e = let p = fine_is x y e in (ap (λ (z : After). z.0) p, ap (λ (z : After). z.1) p)

abbrev none : Option Scan
none = None

not_some : (s : Scan) → none ≡ Some s → ⊥
not_some s e = absurd cc

-- a scan that began
pub began : (h after : HeaderState) (scan : Option Scan) (r : Result Scan MarkerFault) → begun h r ≡ Ok (after, scan)
    → (s : Scan) × (r ≡ Ok s) × (after ≡ record h { scans = h.scans + 1 }) × (scan ≡ Some s)
began h after scan (Ok s) e = let p = parts (record h { scans = h.scans + 1 }, Some s) (after, scan) e in (s, refl, sym p.0, sym p.1)
began h after scan (Err f) e = absurd cc

-- ---- a frame stays

-- a frame is taken only where there is none
first_frame : (h after : HeaderState) (scan : Option Scan) (f g : PictureShape) → accepted h (segment.Frame g) ≡ Ok (after, scan)
    → h.frame ≡ Some f → ⊥
first_frame h after scan f g e framed =
    let t = all_pass ((is_none h.frame, fault.SecondFrame) ∷ []) (record h { frame = Some g }, None) (after, scan) e in
    let n : false ≡ true = sym (ap is_none framed) ∙ t.0.0 in
    absurd cc

-- a frame that was taken stays after each segment that is taken
stays : (h after : HeaderState) (scan : Option Scan) (f : PictureShape) (s : Segment) → accepted h s ≡ Ok (after, scan) → h.frame ≡ Some f
    → after.frame ≡ Some f
stays h after scan f (segment.Frame g) e framed = absurd (first_frame h after scan f g e framed)
stays h after scan f (segment.Scan s) e framed =
    let b = began h after scan (scan_under h s h.frame) e in ap (λ (x : HeaderState). x.frame) b.2 ∙ framed
stays h after scan f (segment.Preset a b c d r) e framed =
    ap (λ (x : HeaderState). x.frame)
    (sym (parts (record h { preset = record { maxval = a; t1 = b; t2 = c; t3 = d; reset = r } }, None) (after, scan) e).0) ∙ framed
stays h after scan f (segment.Restart n) e framed =
    ap (λ (x : HeaderState). x.frame) (sym (parts (record h { restart_interval = n }, None) (after, scan) e).0) ∙ framed
stays h after scan f (segment.Skipped c) e framed = ap (λ (x : HeaderState). x.frame) (sym (parts (h, None) (after, scan) e).0) ∙ framed

-- a frame that was taken stays after what is taken
taking_stays : (h after : HeaderState) (scan : Option Scan) (f : PictureShape) (r : Result Segment MarkerFault)
    → taking h r ≡ Ok (after, scan) → h.frame ≡ Some f → after.frame ≡ Some f
taking_stays h after scan f (Ok s) e framed = stays h after scan f s e framed
taking_stays h after scan f (Err g) e framed = absurd cc

-- the law: a frame that was taken stays
pub frame_stays : (h after : HeaderState) (code : ℕ) (payload : List ℕ) (scan : Option Scan) (f : PictureShape)
    → headers_after h code payload ≡ Ok (after, scan) → h.frame ≡ Some f → after.frame ≡ Some f
unfolding headers_after
frame_stays h after code payload scan f e framed = taking_stays h after scan f (segment_under h.profile code payload) e framed

-- ---- a scan begins under a frame

-- what is known of a scan that a selection began
pub record From (h after : HeaderState) (scan : Scan) (s : ScanSelection) : Type 0 where
  pub frame : PictureShape
  pub framed : h.frame ≡ Some frame
  pub counted : after ≡ record h { scans = h.scans + 1 }
  pub judged : scan_judged frame h.preset h.restart_interval h.scans s ≡ Ok scan

-- a scan that begins under a frame comes from this selection
from_scan : (h after : HeaderState) (scan : Scan) (s : ScanSelection) (o : Option PictureShape) → h.frame ≡ o
    → begun h (scan_under h s o) ≡ Ok (after, Some scan) → From h after scan s
from_scan h after scan s None framed e = absurd cc
from_scan h after scan s (Some f) framed e =
    let b = began h after (Some scan) (scan_under h s (Some f)) e in
    record { frame = f; framed = framed; counted = b.2; judged = b.1 ∙ ap fine (same b.0 b.3) }
  where
    same : (x : Scan) → Some scan ≡ Some x → x ≡ scan
    same x e = cc

-- a scan that begins comes from an SOS, under the headers before it
from_segment : (h after : HeaderState) (scan : Scan) (s : Segment) → accepted h s ≡ Ok (after, Some scan)
    → (x : ScanSelection) × (s ≡ segment.Scan x) × From h after scan x
from_segment h after scan (segment.Frame g) e =
    let t = all_pass ((is_none h.frame, fault.SecondFrame) ∷ []) (record h { frame = Some g }, None) (after, Some scan) e in
    absurd (not_some scan (ap (λ (z : After). z.1) t.1))
from_segment h after scan (segment.Scan x) e = (x, refl, from_scan h after scan x h.frame refl e)
from_segment h after scan (segment.Preset a b c d r) e =
    absurd (not_some scan (parts (record h { preset = record { maxval = a; t1 = b; t2 = c; t3 = d; reset = r } }, None) (after, Some scan)
    e).1)
from_segment h after scan (segment.Restart n) e =
    absurd (not_some scan (parts (record h { restart_interval = n }, None) (after, Some scan) e).1)
from_segment h after scan (segment.Skipped c) e = absurd (not_some scan (parts (h, None) (after, Some scan) e).1)

-- a scan that begins comes from a scan header
pub from_taken : (h after : HeaderState) (scan : Scan) (r : Result Segment MarkerFault) → taking h r ≡ Ok (after, Some scan)
    → (x : ScanSelection) × (r ≡ Ok (segment.Scan x)) × From h after scan x
from_taken h after scan (Ok s) e = let f = from_segment h after scan s e in (f.0, ap fine f.1, f.2)
from_taken h after scan (Err g) e = absurd cc

-- a scan that begins is one of the frame, with the restart interval in force
scan_of_frame : (f : PictureShape) (h : HeaderState) (s : ScanSelection) (scan : Scan)
    → scan_judged f h.preset h.restart_interval h.scans s ≡ Ok scan
    → IsScanOf f scan × (scan.restart_interval ≡ h.restart_interval)
scan_of_frame f h s scan e =
    let t = all_pass (begin_tests f h.preset h.restart_interval h.scans s) (scan_in f h.preset h.restart_interval s) scan e in
    let is : IsScanOf f (scan_in f h.preset h.restart_interval s) =
    record { precision = refl; width = refl; height = refl; components_below = indices_below f.ids s.ids t.0.0 } in
    (subst (IsScanOf f) t.1 is, ap (λ (x : Scan). x.restart_interval) (sym t.1))

-- the law: a scan begins under a frame alone, and changes only the number of scans
pub scans_begin : (h after : HeaderState) (code : ℕ) (payload : List ℕ) (scan : Scan) → headers_after h code payload ≡ Ok (after, Some scan)
    → Begins h after scan
unfolding headers_after
scans_begin h after code payload scan e =
    let t = from_taken h after scan (segment_under h.profile code payload) e in
    let k = scan_of_frame t.2.frame h t.0 scan t.2.judged in
    record { frame = t.2.frame; framed = t.2.framed; counted = t.2.counted; is_of_frame = k.0; restart_interval = k.1 }

-- a scan that begins is in its ranges, if the frame and the selection are in theirs
in_range : (f : PictureShape) (h : HeaderState) (s : ScanSelection) (scan : Scan) → IsShape f → IsScanSelection s
    → scan_judged f h.preset h.restart_interval h.scans s ≡ Ok scan → IsScan scan
in_range f h s scan is sel e =
    let t = all_pass (begin_tests f h.preset h.restart_interval h.scans s) (scan_in f h.preset h.restart_interval s) scan e in
    let p = h.preset in
    let x = scan_in f p h.restart_interval s in
    let count : length x.components ≡ length s.ids = length-map s.ids (index_of f.ids) in
    let samples = leb-true _ _ t.0.1.1.0 in
    let whole : IsScan x =
    scan_is x (params_ok f.precision p t.0.1.0) is.width_at_least is.width_below is.height_at_least is.height_below
    (let a = sel.ids_at_least in omega (arith, count, a)) (let a = sel.ids_at_most in omega (arith, count, a))
    (bytes_below (length f.ids) x.components is.ids_at_most (indices_below f.ids s.ids t.0.0))
    (subst (λ (n : ℕ). f.width * n * row_count x 0 ≤ 2 ^ 28) (sym count) samples) in
    subst IsScan t.1 whole

-- the law: a scan that begins is in its ranges
pub scans_are_in_range : (h after : HeaderState) (code : ℕ) (payload : List ℕ) (scan : Scan) → IsHeaderState h → AreBytes payload
    → headers_after h code payload ≡ Ok (after, Some scan) → IsScan scan
unfolding headers_after
scans_are_in_range h after code payload scan is bytes e =
    let t = from_taken h after scan (segment_under h.profile code payload) e in
    let sel = is_payload h.profile code payload (segment.Scan t.0) bytes t.1 in
    in_range t.2.frame h t.0 scan (is.frame t.2.frame t.2.framed) sel.1.2.in_range t.2.judged

-- ---- other segments count no scan

-- a segment that begins no scan leaves the number of scans as it is
counts_none : (h after : HeaderState) (s : Segment) → accepted h s ≡ Ok (after, None) → after.scans ≡ h.scans
counts_none h after (segment.Frame g) e =
    let t = all_pass ((is_none h.frame, fault.SecondFrame) ∷ []) (record h { frame = Some g }, None) (after, None) e in
    ap (λ (z : After). z.0.scans) (sym t.1)
counts_none h after (segment.Scan s) e = let b = began h after None (scan_under h s h.frame) e in absurd (not_some b.0 b.3)
counts_none h after (segment.Preset a b c d r) e =
    ap (λ (x : HeaderState). x.scans)
    (sym (parts (record h { preset = record { maxval = a; t1 = b; t2 = c; t3 = d; reset = r } }, None) (after, None) e).0)
counts_none h after (segment.Restart n) e =
    ap (λ (x : HeaderState). x.scans) (sym (parts (record h { restart_interval = n }, None) (after, None) e).0)
counts_none h after (segment.Skipped c) e = ap (λ (x : HeaderState). x.scans) (sym (parts (h, None) (after, None) e).0)

taking_counts_none : (h after : HeaderState) (r : Result Segment MarkerFault) → taking h r ≡ Ok (after, None) → after.scans ≡ h.scans
taking_counts_none h after (Ok s) e = counts_none h after s e
taking_counts_none h after (Err g) e = absurd cc

-- the law: a segment that begins no scan leaves their number
pub others_count_none : (h after : HeaderState) (code : ℕ) (payload : List ℕ) → headers_after h code payload ≡ Ok (after, None)
    → after.scans ≡ h.scans
unfolding headers_after
others_count_none h after code payload e = taking_counts_none h after (segment_under h.profile code payload) e
