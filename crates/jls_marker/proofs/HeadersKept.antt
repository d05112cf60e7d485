-- Headers keep their ranges, segment after segment.
use Rattle.std.proofs.Common.{◌≡◌, ℕ, ◌+◌, ◌^◌, ◌<◌, ◌≤◌, List, length, Option, Some, None, Result, Ok, Err, refl, sym, ap, subst, arith}
use Rattle.std.proofs.Common.{inl, inr}
use Rattle.std.proofs.lemmas.Bool.{cases_eq, ltb-true}
use Rattle.jls_values.specs.Shape.{PictureShape, IsShape}
use Rattle.jls_marker.specs.HeaderState.{HeaderState, IsHeaderState, no_headers, no_headers_under}
use Rattle.jls_marker.specs.Headers.{headers_after, accepted, begun, scan_under, scan_judged, begin_tests, scan_in, taking}
use Rattle.jls_marker.specs.Payloads.{IsPayloadUnder}
use Rattle.jls_values.specs.PresetParameters.{PresetParameters, ArePresetParameters}
use Rattle.jls_marker.specs.Scan.{Scan}
use Rattle.jls_marker.specs.ScanSelection.{ScanSelection}
use Rattle.jls_marker.specs.SegmentLaws.{AreBytes}
use Rattle.jls_marker.specs.Segments.{segment_under}
use Rattle.jls_marker.specs.declared.fault.MarkerFault.{MarkerFault}
use Rattle.jls_marker.specs.declared.fault.MarkerFault.TheVariants as fault
use Rattle.jls_marker.specs.declared.profile.Profile.{Profile}
use Rattle.jls_marker.specs.declared.profile.Profile.TheVariants.{Strict}
use Rattle.jls_marker.specs.declared.segment.Segment.{Segment}
use Rattle.jls_marker.specs.declared.segment.Segment.TheVariants as segment
use Rattle.jls_marker.proofs.FirstFailing.{fine, fine_is, all_pass}
use Rattle.jls_marker.proofs.SegmentsRead.{is_payload}
use Rattle.std.specs.Prelude.{is_none, List, [], ◌∷◌}

abbrev After : Type 0
After = HeaderState × Option Scan

-- two outcomes that are alike leave the same headers
left : (x y : After) → fine x ≡ fine y → x.0 ≡ y.0
left x y e = ap (λ (z : After). z.0) (fine_is x y e)

-- the ranges of a segment
abbrev InRange : Segment → Type 0
InRange (segment.Frame f) = IsShape f
InRange (segment.Scan s) = Unit {0}
InRange (segment.Preset a b c d r) = ArePresetParameters (record { maxval = a; t1 = b; t2 = c; t3 = d; reset = r })
InRange (segment.Restart n) = n < 2 ^ 32
InRange (segment.Skipped c) = Unit {0}

-- a number of two to four bytes has 32 bits
four_bytes : (l n : ℕ) → 2 ≤ l → l ≤ 4 → n < 256 ^ l → n < 2 ^ 32
four_bytes l n least most h = elim (cases_eq l 2) [
  | inl e ↦ (let a : n < 256 ^ 2 = subst (λ z. n < 256 ^ z) e h in omega arith)
  | inr x ↦ elim (cases_eq l 3) [
    | inl e ↦ (let a : n < 256 ^ 3 = subst (λ z. n < 256 ^ z) e h in omega arith)
    | inr y ↦ (let f : l ≡ 4 = omega arith in let a : n < 256 ^ 4 = subst (λ z. n < 256 ^ z) f h in omega arith)
  ]
]

-- what a payload says is in its ranges
in_range : (profile : Profile) (code : ℕ) (payload : List ℕ) (s : Segment) → IsPayloadUnder profile code payload s → InRange s
in_range profile code payload (segment.Frame f) h = h.1.2.in_range
in_range profile code payload (segment.Scan s) h = tt
in_range profile code payload (segment.Preset a b c d r) h = h.1.2.in_range
in_range profile code payload (segment.Restart n) h = four_bytes (length payload) n h.1.length_at_least h.1.length_at_most h.1.below
in_range profile code payload (segment.Skipped c) h = tt

-- headers with a frame in its ranges are in theirs
framed : (h : HeaderState) (g : PictureShape) → IsHeaderState h → IsShape g → IsHeaderState (record h { frame = Some g })
framed h g is shape = record {
  frame = λ f e. subst IsShape (same f e) shape;
  preset = is.preset;
  restart_below = is.restart_below;
  scans_at_most = is.scans_at_most;
}
  where
    same : (f : PictureShape) → Some g ≡ Some f → g ≡ f
    same f e = cc

-- a scan that begins is one of sixteen
scans_few : (h after : HeaderState) (scan : Option Scan) (s : ScanSelection) (o : Option PictureShape)
    → begun h (scan_under h s o) ≡ Ok (after, scan)
    → (h.scans < 16) × (after ≡ record h { scans = h.scans + 1 })
scans_few h after scan s None e = absurd cc
scans_few h after scan s (Some f) e = judged (scan_judged f h.preset h.restart_interval h.scans s) refl e
  where
    judged : (r : Result Scan MarkerFault) → scan_judged f h.preset h.restart_interval h.scans s ≡ r → begun h r ≡ Ok (after, scan)
        → (h.scans < 16) × (after ≡ record h { scans = h.scans + 1 })
    judged (Ok x) is e =
        let t = all_pass (begin_tests f h.preset h.restart_interval h.scans s) (scan_in f h.preset h.restart_interval s) x is in
        (ltb-true _ _ t.0.1.1.1.0, sym (left (record h { scans = h.scans + 1 }, Some x) (after, scan) e))
    judged (Err g) is e = absurd cc

-- headers in their ranges stay in them after each segment that is taken
accepted_kept : (h after : HeaderState) (scan : Option Scan) (s : Segment) → IsHeaderState h → InRange s → accepted h s ≡ Ok (after, scan)
    → IsHeaderState after
accepted_kept h after scan (segment.Frame g) is low e =
    let t = all_pass ((is_none h.frame, fault.SecondFrame) ∷ []) (record h { frame = Some g }, None) (after, scan) e in
    subst IsHeaderState (ap (λ (z : After). z.0) t.1) (framed h g is low)
accepted_kept h after scan (segment.Scan s) is low e =
    let t = scans_few h after scan s h.frame e in
    subst IsHeaderState (sym t.1) (record
    { frame = is.frame; preset = is.preset; restart_below = is.restart_below; scans_at_most = (let a = t.0 in omega arith) })
accepted_kept h after scan (segment.Preset a b c d r) is low e =
    let p : PresetParameters = record { maxval = a; t1 = b; t2 = c; t3 = d; reset = r } in
    subst IsHeaderState (left (record h { preset = p }, None) (after, scan) e)
    (record { frame = is.frame; preset = low; restart_below = is.restart_below; scans_at_most = is.scans_at_most })
accepted_kept h after scan (segment.Restart n) is low e =
    subst IsHeaderState (left (record h { restart_interval = n }, None) (after, scan) e)
    (record { frame = is.frame; preset = is.preset; restart_below = low; scans_at_most = is.scans_at_most })
accepted_kept h after scan (segment.Skipped c) is low e = subst IsHeaderState (left (h, None) (after, scan) e) is

-- headers in their ranges stay in them, if the segment is in its own
taking_kept : (h after : HeaderState) (scan : Option Scan) (r : Result Segment MarkerFault) → ((s : Segment) → r ≡ Ok s → InRange s)
    → IsHeaderState h → taking h r ≡ Ok (after, scan) → IsHeaderState after
taking_kept h after scan (Ok s) known is e = accepted_kept h after scan s is (known s refl) e
taking_kept h after scan (Err g) known is e = absurd cc

-- headers stay in their ranges
pub headers_kept : (h after : HeaderState) (code : ℕ) (payload : List ℕ) (scan : Option Scan) → IsHeaderState h → AreBytes payload
    → headers_after h code payload ≡ Ok (after, scan) → IsHeaderState after
unfolding headers_after
headers_kept h after code payload scan is bytes e =
    taking_kept h after scan (segment_under h.profile code payload) (λ s q. in_range h.profile code payload s
    (is_payload h.profile code payload s bytes q)) is e

-- those before the first segment are
pub new_headers_kept : (profile : Profile) → IsHeaderState (no_headers_under profile)
new_headers_kept profile = record {
  frame = λ f e. absurd (nothing f e);
  preset = record {
    maxval_below = omega arith;
    t1_below = omega arith;
    t2_below = omega arith;
    t3_below = omega arith;
    reset_below =
        omega arith;
  };
  restart_below = omega arith;
  scans_at_most = omega arith;
}
  where
    nothing : (f : PictureShape) → None ≡ Some f → ⊥
    nothing f e = cc

pub no_headers_kept : IsHeaderState no_headers
no_headers_kept = new_headers_kept Strict
