-- What headers take under each profile.
use Rattle.std.proofs.Common.{◌≡◌, ℕ, Bool, true, false, cond, eqb, List, [], ◌∷◌, length, Option, Some, None, Result, Ok, Err}
use Rattle.std.proofs.Common.{◌⊎◌, inl, inr, refl, sym, ap, subst, ◌∙◌, arith}
use Rattle.std.specs.Prelude.{◌||◌, ◌==◌, is_none}
use Rattle.std.proofs.lemmas.Bool.{cases_Bool, eq-eqb}
use Rattle.std.proofs.lemmas.List.{length-map}
use Rattle.jls_values.specs.Shape.{PictureShape}
use Rattle.jls_marker.specs.ComponentIndex.{index_of}
use Rattle.jls_marker.specs.Faults.{first_failing}
use Rattle.jls_marker.specs.HeaderState.{HeaderState}
use Rattle.jls_marker.specs.Headers.{begin_tests, scan_in, scan_under, scan_judged, begun, accepted, taking, headers_after}
use Rattle.jls_marker.specs.Layouts.{FrameHeader, frame_header, ScanHeader, scan_header, preset_parameters, restart_interval}
use Rattle.jls_marker.specs.MarkerCodes.{sof55, sos, lse, dri, is_skipped}
use Rattle.jls_marker.specs.ProfileLaws.{under, IsBySample, ProfilesStay, StrictHeadersHaveNoneBySample, ScansBySampleHaveSeveral}
use Rattle.jls_marker.specs.ProfileLaws.{WideHeadersTakeAlike, WideHeadersTakeMoreBySample}
use Rattle.jls_marker.specs.Profiles.{takes_interleave}
use Rattle.jls_marker.specs.Scan.{Scan}
use Rattle.jls_marker.specs.ScanSelection.{ScanSelection}
use Rattle.jls_marker.specs.Segments.{frame_of, frame_tests, shape_in, scan_ids, scan_tests, scan_of, selection_in, preset_of, lse_of}
use Rattle.jls_marker.specs.Segments.{restart_of, segment_under}
use Rattle.jls_values.specs.PresetParameters.{PresetParameters}
use Rattle.jls_marker.specs.declared.fault.MarkerFault.{MarkerFault}
use Rattle.jls_marker.specs.declared.fault.MarkerFault.TheVariants as fault
use Rattle.jls_marker.specs.declared.profile.Profile.{Profile}
use Rattle.jls_marker.specs.declared.profile.Profile.TheVariants.{Strict, Wide}
use Rattle.jls_marker.specs.declared.segment.Segment.{Segment}
use Rattle.jls_marker.specs.declared.segment.Segment.TheVariants as segment
use Rattle.jls_marker.proofs.FirstFailing.{all_pass, none_fails}
use Rattle.jls_marker.proofs.HeaderSteps.{After, parts, began, from_taken}
use Rattle.jls_marker.proofs.Interleaving.{has_interleave, sample_kind, wide_takes}
use Rattle.jls_marker.proofs.SegmentsRead.{is_payload}

-- ---- the profile stays

-- a segment that is taken leaves the profile as it is
keeps : (h after : HeaderState) (scan : Option Scan) (s : Segment) → accepted h s ≡ Ok (after, scan) → after.profile ≡ h.profile
keeps h after scan (segment.Frame g) e =
    let t = all_pass ((is_none h.frame, fault.SecondFrame) ∷ []) (record h { frame = Some g }, None) (after, scan) e in
    ap (λ (z : After). z.0.profile) (sym t.1)
keeps h after scan (segment.Scan s) e = ap (λ (x : HeaderState). x.profile) (began h after scan (scan_under h s h.frame) e).2
keeps h after scan (segment.Preset a b c d r) e =
    ap (λ (x : HeaderState). x.profile)
    (sym (parts (record h { preset = record { maxval = a; t1 = b; t2 = c; t3 = d; reset = r } }, None) (after, scan) e).0)
keeps h after scan (segment.Restart n) e =
    ap (λ (x : HeaderState). x.profile) (sym (parts (record h { restart_interval = n }, None) (after, scan) e).0)
keeps h after scan (segment.Skipped c) e = ap (λ (x : HeaderState). x.profile) (sym (parts (h, None) (after, scan) e).0)

-- what is taken leaves the profile
taking_keeps : (h after : HeaderState) (scan : Option Scan) (r : Result Segment MarkerFault) → taking h r ≡ Ok (after, scan)
    → after.profile ≡ h.profile
taking_keeps h after scan (Ok s) e = keeps h after scan s e
taking_keeps h after scan (Err g) e = absurd cc

pub profiles_stay : ProfilesStay
unfolding headers_after
profiles_stay h after code payload scan e = taking_keeps h after scan (segment_under h.profile code payload) e

-- ---- scans by sample

-- the scan of a selection is by sample as the selection is
judged_by : (h : HeaderState) (f : PictureShape) (s : ScanSelection) (scan : Scan)
    → scan_judged f h.preset h.restart_interval h.scans s ≡ Ok scan → scan.by_sample ≡ s.by_sample
judged_by h f s scan e =
    ap (λ (x : Scan). x.by_sample)
    (sym (all_pass (begin_tests f h.preset h.restart_interval h.scans s) (scan_in f h.preset h.restart_interval s) scan e).1)

-- the scan of a selection has as many components as the selection
judged_count : (h : HeaderState) (f : PictureShape) (s : ScanSelection) (scan : Scan)
    → scan_judged f h.preset h.restart_interval h.scans s ≡ Ok scan → length scan.components ≡ length s.ids
judged_count h f s scan e =
    ap (λ (x : Scan). length x.components)
    (sym (all_pass (begin_tests f h.preset h.restart_interval h.scans s) (scan_in f h.preset h.restart_interval s) scan e).1)
    ∙ length-map s.ids (index_of f.ids)

-- a segment of a scan that is not by sample, or another segment
abbrev IsNotBySample : Segment → Type 0
IsNotBySample (segment.Scan s) = s.by_sample ≡ false
IsNotBySample _ = Unit {0}

abbrev read : Segment → Result Segment MarkerFault
read s = Ok s

-- a fault, or a segment that is not by sample
abbrev AllNot : Result Segment MarkerFault → Type 0
AllNot (Ok s) = IsNotBySample s
AllNot (Err f) = Unit {0}

cond_not : (b : Bool) (x y : Result Segment MarkerFault) → AllNot x → AllNot y → AllNot (cond b x y)
cond_not true x y p q = p
cond_not false x y p q = q

-- tests before a value that is no scan by sample give none
first_not : (tests : List (Bool × MarkerFault)) (s : Segment) → IsNotBySample s → AllNot (first_failing tests s)
first_not [] s not = not
first_not ((true, f) ∷ tests) s not = first_not tests s not
first_not ((false, f) ∷ tests) s not = tt

frame_not : (o : Option FrameHeader) → AllNot (frame_of o)
frame_not None = tt
frame_not (Some h) = first_not (frame_tests h) (segment.Frame (shape_in h)) tt

-- a strict scan header selects no scan by sample
scan_not : (o : Option ScanHeader) → AllNot (scan_of Strict o)
scan_not None = tt
scan_not (Some h) = of_read (scan_of Strict (Some h)) refl
  where
    of_read : (r : Result Segment MarkerFault) → scan_of Strict (Some h) ≡ r → AllNot r
    of_read (Ok s) e =
        let t = all_pass (scan_tests Strict h) (segment.Scan (selection_in h)) s e in
        let has = has_interleave Strict (length h.components) h.interleave t.0.1.1.1.0 in
        subst IsNotBySample t.1 (has.of_profile (scan_ids h))
    of_read (Err f) e = tt

preset_not : (o : Option PresetParameters) → AllNot (preset_of o)
preset_not None = tt
preset_not (Some p) = tt

-- an LSE begins no scan by sample
lse_not : (payload : List ℕ) → AllNot (lse_of payload)
lse_not [] = tt
lse_not (id ∷ values) = cond_not (id == 1) _ _ (preset_not (preset_parameters values))
    (first_not (((id == 2) || (id == 3), fault.LseId) ∷ []) (segment.Skipped lse) tt)

restart_not : (o : Option ℕ) → AllNot (restart_of o)
restart_not None = tt
restart_not (Some n) = tt

-- a strict segment begins no scan by sample
strict_not : (code : ℕ) (payload : List ℕ) → AllNot (segment_under Strict code payload)
strict_not code payload =
    cond_not (eqb code sof55) _ _ (frame_not (frame_header payload))
    (cond_not (eqb code sos) _ _ (scan_not (scan_header payload))
    (cond_not (eqb code lse) _ _ (lse_not payload)
    (cond_not (eqb code dri) _ _ (restart_not (restart_interval payload)) (cond_not (is_skipped code) _ _ tt tt))))

strict_segment : (code : ℕ) (payload : List ℕ) (s : Segment) → segment_under Strict code payload ≡ Ok s → IsNotBySample s
strict_segment code payload s e = subst AllNot e (strict_not code payload)

-- a scan that begins under headers of a profile
strict_begins : (profile : Profile) (h after : HeaderState) (code : ℕ) (payload : List ℕ) (scan : Scan) → profile ≡ Strict
    → taking h (segment_under profile code payload) ≡ Ok (after, Some scan) → scan.by_sample ≡ false
strict_begins Strict h after code payload scan is e =
    let t = from_taken h after scan (segment_under Strict code payload) e in
    judged_by h t.2.frame t.0 scan t.2.judged ∙ strict_segment code payload (segment.Scan t.0) t.1
strict_begins Wide h after code payload scan is e = absurd cc

pub strict_headers_have_none_by_sample : StrictHeadersHaveNoneBySample
unfolding headers_after
strict_headers_have_none_by_sample h after code payload scan is e = strict_begins h.profile h after code payload scan is e

-- the law: a scan by sample has two components or more
pub scans_by_sample_have_several : ScansBySampleHaveSeveral
unfolding headers_after
scans_by_sample_have_several h after code payload scan bytes e by =
    let t = from_taken h after scan (segment_under h.profile code payload) e in
    let selected = is_payload h.profile code payload (segment.Scan t.0) bytes t.1 in
    let more = selected.1.2.in_range.several (sym (judged_by h t.2.frame t.0 scan t.2.judged) ∙ by) in
    let count = judged_count h t.2.frame t.0 scan t.2.judged in
    omega (arith, more, count)

-- ---- what both profiles read

-- two readings, through the same choices
module _ (Related : Result Segment MarkerFault → Result Segment MarkerFault → Type 0)
    (same : (x : Result Segment MarkerFault) → Related x x) where
  cond_related : (b : Bool) (x y u v : Result Segment MarkerFault) → Related x y → Related u v → Related (cond b x u) (cond b y v)
  cond_related true x y u v p q = p
  cond_related false x y u v p q = q

  -- what relates scan headers under two profiles relates all segments
  segments_related : (p q : Profile) (code : ℕ) (payload : List ℕ)
      → Related (scan_of p (scan_header payload)) (scan_of q (scan_header payload))
      → Related (segment_under p code payload) (segment_under q code payload)
  segments_related p q code payload scans =
      cond_related (eqb code sof55) _ _ _ _ (same (frame_of (frame_header payload)))
      (cond_related (eqb code sos) _ _ _ _ scans (same _))

-- what one reads, the other reads
abbrev Alike : Result Segment MarkerFault → Result Segment MarkerFault → Type 0
Alike x y = (s : Segment) → x ≡ read s → y ≡ read s

-- what is a scan header under the strict profile is one under the wide one
scans_alike : (o : Option ScanHeader) → Alike (scan_of Strict o) (scan_of Wide o)
scans_alike None s e = absurd cc
scans_alike (Some h) s e =
    let t = all_pass (scan_tests Strict h) (segment.Scan (selection_in h)) s e in
    let p = t.0 in
    none_fails (scan_tests Wide h) (segment.Scan (selection_in h))
    (p.0, (p.1.0, (p.1.1.0, (wide_takes (length h.components) h.interleave p.1.1.1.0, p.1.1.1.1))))
    ∙ ap read t.1

-- what is a segment under the strict profile is one under the wide one
wide_reads : (code : ℕ) (payload : List ℕ) → Alike (segment_under Strict code payload) (segment_under Wide code payload)
wide_reads code payload = segments_related Alike (λ x s e. e) Strict Wide code payload (scans_alike (scan_header payload))

-- a scan segment that is by sample
abbrev IsSampleSegment : Segment → Type 0
IsSampleSegment (segment.Scan s) = s.by_sample ≡ true
IsSampleSegment _ = ⊥

-- what one reads is a scan by sample, or the other reads it
abbrev AlikeOrBySample : Result Segment MarkerFault → Result Segment MarkerFault → Type 0
AlikeOrBySample x y = (s : Segment) → x ≡ read s → IsSampleSegment s ⊎ (y ≡ read s)

-- a scan header is read alike under both profiles, or selects a scan by sample under the wide one
scans_more : (o : Option ScanHeader) → AlikeOrBySample (scan_of Wide o) (scan_of Strict o)
scans_more None s e = absurd cc
scans_more (Some h) s e =
    let t = all_pass (scan_tests Wide h) (segment.Scan (selection_in h)) s e in
    let p = t.0 in
    elim (cases_Bool (takes_interleave Strict (length h.components) h.interleave)) [
      | inl strict ↦
          inr (none_fails (scan_tests Strict h) (segment.Scan (selection_in h)) (p.0, (p.1.0, (p.1.1.0, (strict, p.1.1.1.1))))
          ∙ ap read t.1)
      | inr not ↦
          let two = (sample_kind (length h.components) h.interleave not p.1.1.1.0).1 in
          inl (subst IsSampleSegment t.1 (eq-eqb h.interleave 2 two))
    ]

wide_reads_more : (code : ℕ) (payload : List ℕ) → AlikeOrBySample (segment_under Wide code payload) (segment_under Strict code payload)
wide_reads_more code payload =
    segments_related AlikeOrBySample (λ x s e. inr e) Wide Strict code payload (scans_more (scan_header payload))

-- ---- what both profiles take

-- what is left, with the headers under a profile
abbrev left_under : Profile → Result After MarkerFault → Result After MarkerFault
left_under profile (Ok left) = Ok (under profile left.0, left.1)
left_under profile (Err f) = Err f

begun_alike : (p q : Profile) (h : HeaderState) (r : Result Scan MarkerFault) → begun (under p h) r ≡ left_under p (begun (under q h) r)
begun_alike p q h (Ok x) = refl
begun_alike p q h (Err f) = refl

-- headers of two profiles take a frame alike
frame_alike : (p q : Profile) (h : HeaderState) (g : PictureShape) (b : Bool)
    → first_failing ((b, fault.SecondFrame) ∷ []) (record (under p h) { frame = Some g }, None)
    ≡ left_under p (first_failing ((b, fault.SecondFrame) ∷ []) (record (under q h) { frame = Some g }, None))
frame_alike p q h g true = refl
frame_alike p q h g false = refl

-- headers of two profiles take a segment alike
accepted_alike : (p q : Profile) (h : HeaderState) (s : Segment) → accepted (under p h) s ≡ left_under p (accepted (under q h) s)
accepted_alike p q h (segment.Frame g) = frame_alike p q h g (is_none h.frame)
accepted_alike p q h (segment.Scan s) = begun_alike p q h (scan_under h s h.frame)
accepted_alike p q h (segment.Preset a b c d r) = refl
accepted_alike p q h (segment.Restart n) = refl
accepted_alike p q h (segment.Skipped c) = refl

-- what headers of one profile take, those of another take
taken_alike : (p q : Profile) (h after : HeaderState) (s : Segment) (scan : Option Scan) → accepted (under q h) s ≡ Ok (after, scan)
    → accepted (under p h) s ≡ Ok (under p after, scan)
taken_alike p q h after s scan e = accepted_alike p q h s ∙ ap (left_under p) e

-- a segment that was taken
abbrev given : Result Segment MarkerFault → HeaderState → HeaderState → Option Scan → Type 0
given r h after scan = (s : Segment) × (r ≡ read s) × (accepted h s ≡ Ok (after, scan))

taken : (h after : HeaderState) (scan : Option Scan) (r : Result Segment MarkerFault) → taking h r ≡ Ok (after, scan) → given r h after scan
taken h after scan (Ok s) e = (s, refl, e)
taken h after scan (Err f) e = absurd cc

-- the law: wide headers take what strict ones take, and are left alike
pub wide_headers_take_alike : WideHeadersTakeAlike
unfolding headers_after
wide_headers_take_alike h after code payload scan e =
    let t = taken (under Strict h) after scan (segment_under Strict code payload) e in
    ap (taking (under Wide h)) (wide_reads code payload t.0 t.1) ∙ taken_alike Wide Strict h after t.0 scan t.2

-- a scan that begins of a selection by sample
begins_by_sample : (h after : HeaderState) (s : ScanSelection) (scan : Option Scan) (o : Option PictureShape) → s.by_sample ≡ true
    → begun h (scan_under h s o) ≡ Ok (after, scan) → IsBySample scan
begins_by_sample h after s scan None by e = absurd cc
begins_by_sample h after s scan (Some f) by e =
    let b = began h after scan (scan_under h s (Some f)) e in (b.0, b.3, judged_by h f s b.0 b.1 ∙ by)

-- a segment of a scan by sample begins such a scan
takes_by_sample : (h after : HeaderState) (s : Segment) (scan : Option Scan) → IsSampleSegment s → accepted h s ≡ Ok (after, scan)
    → IsBySample scan
takes_by_sample h after (segment.Frame g) scan by e = absurd by
takes_by_sample h after (segment.Scan s) scan by e = begins_by_sample h after s scan h.frame by e
takes_by_sample h after (segment.Preset a b c d r) scan by e = absurd by
takes_by_sample h after (segment.Restart n) scan by e = absurd by
takes_by_sample h after (segment.Skipped c) scan by e = absurd by

-- the law: what wide headers take begins a scan by sample, or strict ones take it
pub wide_headers_take_more_by_sample : WideHeadersTakeMoreBySample
unfolding headers_after
wide_headers_take_more_by_sample h after code payload scan e =
    let t = taken (under Wide h) after scan (segment_under Wide code payload) e in
    elim (wide_reads_more code payload t.0 t.1) [
      | inl by ↦ inl (takes_by_sample (under Wide h) after t.0 scan by t.2)
      | inr strict ↦ inr (ap (taking (under Strict h)) strict ∙ taken_alike Strict Wide h after t.0 scan t.2)
    ]
