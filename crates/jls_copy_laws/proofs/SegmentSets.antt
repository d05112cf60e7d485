-- What marker segments set is what the headers take of them.
use Rattle.std.proofs.Common.{◌≡◌, ℕ, ◌+◌, ◌-◌, ◌^◌, ◌<◌, ◌≤◌, true, List, [], ◌∷◌, ◌++◌, length, replicate, Option, Some, None, Result, Ok}
use Rattle.std.proofs.Common.{Err, ◌⊎◌, false, refl, sym, ◌∙◌, ap, subst, arith, inl, inr}
use Rattle.std.specs.Prelude.{is_none}
use Rattle.std.specs.List.{AllByRecursion}
use Rattle.std.specs.Int.{from_be_bytes, w32}
use Rattle.std.proofs.lemmas.Option.{same_Some}
use Rattle.jls_values.specs.PresetParameters.{PresetParameters, ArePresetParameters}
use Rattle.jls_values.specs.Shape.{PictureShape}
use Rattle.jls_marker.specs.HeaderState.{HeaderState, IsHeaderState}
use Rattle.jls_marker.specs.Headers.{accepted, begun, headers_after, scan_under, taking}
use Rattle.jls_marker.specs.Layouts.{HasRestartLayout, preset_bytes, restart_interval}
use Rattle.jls_marker.specs.MarkerCodes.{sof55, sos, lse, dri, is_skipped}
use Rattle.jls_marker.specs.Payloads.{HasLseId, IsPayload, IsPayloadUnder}
use Rattle.jls_marker.specs.Scan.{Scan}
use Rattle.jls_marker.specs.ScanSelection.{ScanSelection}
use Rattle.jls_marker.specs.SegmentLaws.{AreBytes}
use Rattle.jls_marker.specs.Segments.{segment_of, segment_under}
use Rattle.jls_marker.specs.declared.fault.MarkerFault.{MarkerFault}
use Rattle.jls_marker.specs.declared.fault.MarkerFault.TheVariants as fault
use Rattle.jls_marker.specs.declared.profile.Profile.{Profile}
use Rattle.jls_marker.specs.declared.profile.Profile.TheVariants.{Strict}
use Rattle.jls_marker.specs.declared.segment.Segment.{Segment}
use Rattle.jls_marker.specs.declared.segment.Segment.TheVariants as segment
use Rattle.jls_marker.proofs.FirstFailing.{all_pass, fine_is}
use Rattle.jls_marker.proofs.HeaderSteps.{After, began}
use Rattle.jls_marker.proofs.Layouts.{restart_of_layout, restart_there}
use Rattle.jls_marker.proofs.SegmentsRead.{is_payload, is_read}
use Rattle.jls_copy_laws.specs.SegmentLaws.{SegmentsSetTheHeaders}
use Rattle.jls_copy_laws.specs.SegmentSets.{BeginsScan, Sets, preset_values}
use Rattle.jls_copy_laws.specs.SegmentSets as sets
use Rattle.jls_copy_laws.proofs.PayloadFields.{frame_payload_laid, frame_payload_read, scan_payload_laid, scan_payload_read, selected}
use Rattle.jls_copy_laws.proofs.ScanBegins.{scan_begins, scan_passes}

-- ---- the restart interval

-- the number that two to four bytes are, the highest first
abbrev interval_of : List ℕ → ℕ
interval_of payload = from_be_bytes w32 (replicate (4 - length payload) 0 ++ payload)

-- two to four bytes are read as this number
interval_read : (payload : List ℕ) → 2 ≤ length payload → length payload ≤ 4 → restart_interval payload ≡ Some (interval_of payload)
interval_read [] least most = absurd (omega arith)
interval_read (a ∷ []) least most = absurd (omega arith)
interval_read (a ∷ b ∷ []) least most = refl
interval_read (a ∷ b ∷ c ∷ []) least most = refl
interval_read (a ∷ b ∷ c ∷ d ∷ []) least most = refl
interval_read (a ∷ b ∷ c ∷ d ∷ e ∷ more) least most = absurd (omega arith)

-- a number that has the layout of a restart interval is the one that the bytes are
interval_is : (payload : List ℕ) (n : ℕ) → HasRestartLayout payload n → interval_of payload ≡ n
interval_is payload n l =
    same_Some (interval_of payload) n (sym (interval_read payload l.length_at_least l.length_at_most) ∙ restart_of_layout payload n l)

-- ---- what is taken is set

module _ (h : HeaderState) (code : ℕ) (payload : List ℕ) where
  -- what a segment sets is what is left of it
  left_is : (x y : After) → x ≡ y → Sets h code payload x.0 x.1 → Sets h code payload y.0 y.1
  left_is x y e s = subst (λ (z : After). Sets h code payload z.0 z.1) e s

  -- a segment of another name for the code and the payload
  named : (k : ℕ) (bytes : List ℕ) (after : HeaderState) (scan : Option Scan) → code ≡ k → payload ≡ bytes → Sets h k bytes after scan
      → Sets h code payload after scan
  named k bytes after scan code_is payload_is s =
      subst (λ (c : ℕ). Sets h c payload after scan) (sym code_is) (subst (λ (p : List ℕ). Sets h k p after scan) (sym payload_is) s)

-- what passes the test for no frame is none
no_frame : (o : Option PictureShape) → is_none o ≡ true → o ≡ None
no_frame None e = refl
no_frame (Some shape) e = absurd cc

-- a frame that is taken is the first
frame_sets : (h after : HeaderState) (code : ℕ) (payload : List ℕ) (scan : Option Scan) (shape : PictureShape)
    → IsPayload code payload (segment.Frame shape) → accepted h (segment.Frame shape) ≡ Ok (after, scan) → Sets h code payload after scan
frame_sets h after code payload scan shape p e =
    let x : After = (record h { frame = Some shape }, None) in
    let t = all_pass ((is_none h.frame, fault.SecondFrame) ∷ []) x (after, scan) e in
    let is = frame_payload_read shape payload p.1.0 p.1.1 p.1.2 in
    left_is h code payload x (after, scan) t.1
    (named h code payload sof55 payload x.0 x.1 p.0 refl (sets.frame h shape payload (no_frame h.frame t.0.0) is))

-- a scan that is judged to begin begins under a frame
judged_begins : (h : HeaderState) (selection : ScanSelection) (s : Scan) (o : Option PictureShape) → selection.by_sample ≡ false
    → h.frame ≡ o → scan_under h selection o ≡ Ok s → BeginsScan h selection.ids s
judged_begins h selection s None not_sample framed e = absurd cc
judged_begins h selection s (Some shape) not_sample framed e = scan_begins h selection shape s not_sample framed e

-- a scan that is taken begins
scan_sets : (h after : HeaderState) (code : ℕ) (payload : List ℕ) (scan : Option Scan) (selection : ScanSelection)
    → IsPayload code payload (segment.Scan selection) → accepted h (segment.Scan selection) ≡ Ok (after, scan)
    → Sets h code payload after scan
scan_sets h after code payload scan selection p e =
    let b = began h after scan (scan_under h selection h.frame) e in
    let begins = judged_begins h selection b.0 h.frame p.1.2.of_profile refl b.1 in
    let is = scan_payload_read selection payload p.1.0 p.1.1 p.1.2 in
    let x : After = (record h { scans = h.scans + 1 }, Some b.0) in
    let left : x ≡ (after, scan) = ap (λ (a : HeaderState). (a, Some b.0)) (sym b.2) ∙ ap (λ (o : Option Scan). (after, o)) (sym b.3) in
    left_is h code payload x (after, scan) left
    (named h code payload sos payload x.0 x.1 p.0 refl (sets.scan h selection.ids payload b.0 is begins))

-- preset values that are taken are in force
presets_set : (h after : HeaderState) (code : ℕ) (payload : List ℕ) (scan : Option Scan) (p : PresetParameters)
    → IsPayload code payload (segment.Preset p.maxval p.t1 p.t2 p.t3 p.reset)
    → accepted h (segment.Preset p.maxval p.t1 p.t2 p.t3 p.reset) ≡ Ok (after, scan) → Sets h code payload after scan
presets_set h after code payload scan p is e =
    let x : After = (record h { preset = p }, None) in
    let layout = is.1.2 in
    let r = layout.in_range in
    let below : AllByRecursion (λ value. value < 2 ^ 16) (preset_values p) =
    (r.maxval_below, (r.t1_below, (r.t2_below, (r.t3_below, (r.reset_below, tt))))) in
    left_is h code payload x (after, scan) (fine_is x (after, scan) e)
    (named h code payload lse (1 ∷ preset_bytes p) x.0 x.1 is.0 (is.1.1 ∙ ap (λ (values : List ℕ). 1 ∷ values) layout.bytes)
    (sets.presets h p below))

-- a restart interval that is taken is in force
restart_sets : (h after : HeaderState) (code : ℕ) (payload : List ℕ) (scan : Option Scan) (n : ℕ)
    → IsPayload code payload (segment.Restart n) → accepted h (segment.Restart n) ≡ Ok (after, scan) → Sets h code payload after scan
restart_sets h after code payload scan n is e =
    let set : ℕ → After = λ k. (record h { restart_interval = k }, None) in
    let layout = is.1 in
    let same = interval_is payload n layout in
    left_is h code payload (set (interval_of payload)) (after, scan) (ap set same ∙ fine_is (set n) (after, scan) e)
    (named h code payload dri payload (set (interval_of payload)).0 None is.0 refl
    (sets.restart h payload layout.length_at_least layout.length_at_most))

-- a segment that is skipped sets nothing
skipped_sets : (h : HeaderState) (code : ℕ) (payload : List ℕ)
    → (is_skipped code ≡ true) ⊎ ((code ≡ lse) × (HasLseId payload 2 ⊎ HasLseId payload 3)) → Sets h code payload h None
skipped_sets h code payload (inl e) = sets.skipped h code payload e
skipped_sets h code payload (inr (is_lse, inl (table, is))) =
    named h code payload lse (2 ∷ table) h None is_lse is (sets.mapping_table h 2 table (inl refl))
skipped_sets h code payload (inr (is_lse, inr (table, is))) =
    named h code payload lse (3 ∷ table) h None is_lse is (sets.mapping_table h 3 table (inr refl))

-- a segment that is accepted sets what it leaves
accepted_sets : (h after : HeaderState) (code : ℕ) (payload : List ℕ) (scan : Option Scan) (s : Segment) → IsPayload code payload s
    → accepted h s ≡ Ok (after, scan) → Sets h code payload after scan
accepted_sets h after code payload scan (segment.Frame shape) p e = frame_sets h after code payload scan shape p e
accepted_sets h after code payload scan (segment.Scan selection) p e = scan_sets h after code payload scan selection p e
accepted_sets h after code payload scan (segment.Preset maxval t1 t2 t3 reset) p e =
    presets_set h after code payload scan (record { maxval = maxval; t1 = t1; t2 = t2; t3 = t3; reset = reset }) p e
accepted_sets h after code payload scan (segment.Restart n) p e = restart_sets h after code payload scan n p e
accepted_sets h after code payload scan (segment.Skipped c) p e =
    left_is h code payload (h, None) (after, scan) (fine_is (h, None) (after, scan) e) (skipped_sets h code payload p.1)

-- a segment that is taken sets what it leaves
taken_sets : (h after : HeaderState) (code : ℕ) (payload : List ℕ) (scan : Option Scan) → AreBytes payload
    → (r : Result Segment MarkerFault) → segment_of code payload ≡ r → taking h r ≡ Ok (after, scan) → Sets h code payload after scan
taken_sets h after code payload scan bytes (Ok s) is e =
    accepted_sets h after code payload scan s (is_payload Strict code payload s bytes is) e
taken_sets h after code payload scan bytes (Err f) is e = absurd cc

-- ---- what is set is taken

-- a payload of a segment is taken as the segment is
payload_taken : (h after : HeaderState) (code : ℕ) (payload : List ℕ) (scan : Option Scan) (s : Segment)
    → IsPayloadUnder h.profile code payload s → accepted h s ≡ Ok (after, scan) → headers_after h code payload ≡ Ok (after, scan)
unfolding headers_after
payload_taken h after code payload scan s is e = ap (taking h) (is_read h.profile code payload s is) ∙ e

-- a first frame is accepted
frame_taken : (h : HeaderState) (shape : PictureShape) → h.frame ≡ None
    → accepted h (segment.Frame shape) ≡ Ok (record h { frame = Some shape }, None)
frame_taken h shape none = let test : is_none h.frame ≡ true = ap is_none none in rw test refl

-- what a segment sets is what the headers take of it, under each profile
pub sets_taken : (h : HeaderState) (code : ℕ) (payload : List ℕ) (after : HeaderState) (scan : Option Scan)
    → IsHeaderState h → AreBytes payload → Sets h code payload after scan → headers_after h code payload ≡ Ok (after, scan)
sets_taken _ _ _ _ _ state bytes (sets.frame h shape payload none is) =
    payload_taken h _ sof55 payload None (segment.Frame shape) (refl, frame_payload_laid shape payload is)
    (frame_taken h shape none)
sets_taken _ _ _ _ _ state bytes (sets.scan h ids payload s is begins) =
    let selection = selected ids is.interleave in
    payload_taken h _ sos payload (Some s) (segment.Scan selection) (refl, scan_payload_laid h.profile ids payload bytes is)
    (ap (begun h) (scan_passes h ids selection.line s state begins))
sets_taken _ _ _ _ _ state bytes (sets.presets h p below) =
    let range : ArePresetParameters p = record {
      maxval_below = below.0;
      t1_below = below.1.0;
      t2_below = below.1.1.0;
      t3_below = below.1.1.1.0;
      reset_below = below.1.1.1.1.0;
    } in
    payload_taken h _ lse (1 ∷ preset_bytes p) None (segment.Preset p.maxval p.t1 p.t2 p.t3 p.reset)
    (refl, (preset_bytes p, refl, record { bytes = refl; in_range = range })) refl
sets_taken _ _ _ _ _ state bytes (sets.mapping_table h id table (inl two)) =
    payload_taken h h lse (id ∷ table) None (segment.Skipped lse)
    (refl, inr (refl, inl (table, ap (λ (k : ℕ). k ∷ table) two))) refl
sets_taken _ _ _ _ _ state bytes (sets.mapping_table h id table (inr three)) =
    payload_taken h h lse (id ∷ table) None (segment.Skipped lse)
    (refl, inr (refl, inr (table, ap (λ (k : ℕ). k ∷ table) three))) refl
sets_taken _ _ _ _ _ state bytes (sets.restart h payload least most) =
    let n = interval_of payload in
    payload_taken h _ dri payload None (segment.Restart n) (refl, restart_there payload n bytes (interval_read payload least most)) refl
sets_taken _ _ _ _ _ state bytes (sets.skipped h code payload e) =
    payload_taken h h code payload None (segment.Skipped code) (refl, inl e) refl

-- what strict headers take of a segment is what it sets
pub headers_set : (h after : HeaderState) (code : ℕ) (payload : List ℕ) (scan : Option Scan) → h.profile ≡ Strict → AreBytes payload
    → headers_after h code payload ≡ Ok (after, scan) → Sets h code payload after scan
unfolding headers_after
headers_set h after code payload scan strict bytes e =
    taken_sets h after code payload scan bytes (segment_of code payload) refl
    (ap (λ (profile : Profile). taking h (segment_under profile code payload)) (sym strict) ∙ e)

-- the law: strict headers in their ranges take a segment exactly where it sets something, and that is what it sets
pub segments_set_the_headers : SegmentsSetTheHeaders
segments_set_the_headers h after code payload scan strict state bytes =
    (headers_set h after code payload scan strict bytes, sets_taken h code payload after scan state bytes)
