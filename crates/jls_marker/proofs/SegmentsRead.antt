-- A payload is read as a segment exactly where it is a payload of this segment.
use Rattle.std.proofs.Common.{◌≡◌, ℕ, Bool, true, false, cond, eqb, List, [], ◌∷◌, ◌++◌, length, map, Option, Some}
use Rattle.std.proofs.Common.{None, Ok, Err, ◌⊎◌, refl, sym, ap, subst, ◌∙◌, arith, inl, inr}
use Rattle.std.specs.Prelude.{◌||◌, ◌==◌, not, is_ok}
use Rattle.std.specs.List.{list_all, flat_map, AllByRecursion}
use Rattle.std.proofs.lemmas.Bool.{eqb-true, eq-eqb, ne_eqb, and_parts, and_from, cases_Bool}
use Rattle.std.proofs.lemmas.List.{length-map}
use Rattle.jls_values.specs.Shape.{PictureShape, has_repeat}
use Rattle.jls_values.specs.ShapeOf.{shape_of}
use Rattle.jls_marker.specs.MarkerCodes.{sof55, sos, lse, dri, is_skipped}
use Rattle.jls_values.specs.PresetParameters.{PresetParameters}
use Rattle.jls_marker.specs.Profiles.{takes_interleave}
use Rattle.jls_marker.specs.ScanSelection.{ScanSelection, interleave_of}
use Rattle.jls_marker.specs.Layouts.{FrameComponent, FrameHeader, HasFrameLayout, frame_component_bytes, frame_header, ScanComponent}
use Rattle.jls_marker.specs.Layouts.{ScanHeader, HasScanLayout, scan_component_bytes, scan_header, preset_parameters, restart_interval}
use Rattle.jls_marker.specs.Payloads.{IsFrameHeaderOf, IsScanHeaderUnder, HasLseId, IsPayloadUnder}
use Rattle.jls_marker.specs.SegmentLaws.{AreBytes}
use Rattle.jls_marker.specs.Segments.{frame_ids, shape_in, frame_tests, frame_of, scan_ids, selection_in, scan_tests, scan_of, preset_of}
use Rattle.jls_marker.specs.Segments.{lse_of, restart_of, segment_under}
use Rattle.jls_marker.specs.declared.fault.MarkerFault.TheVariants as fault
use Rattle.jls_marker.specs.declared.profile.Profile.{Profile}
use Rattle.jls_marker.specs.declared.segment.Segment.{Segment}
use Rattle.jls_marker.specs.declared.segment.Segment.TheVariants.{Frame, Scan, Preset, Restart, Skipped}
use Rattle.jls_marker.specs.Faults.{first_failing}
use Rattle.jls_marker.proofs.FirstFailing.{all_pass, none_fails, fine, fine_is}
use Rattle.jls_marker.proofs.ComponentLayouts.{frame_header_there, frame_header_of, scan_header_there, scan_header_of}
use Rattle.jls_marker.proofs.Interleaving.{has_interleave, is_taken, line_again, sample_again}
use Rattle.jls_marker.proofs.Layouts.{preset_there, preset_of_layout, restart_there, restart_of_layout}
use Rattle.jls_marker.proofs.Shapes.{shape_there, shape_in_range}

-- ---- tests of each component

module _ {X : Type 0} where
  pub each_is : (f : X → ℕ) (k : ℕ) (xs : List X) → list_all (λ x. f x == k) xs ≡ true → AllByRecursion (λ x. f x ≡ k) xs
  each_is f k [] e = tt
  each_is f k (x ∷ xs) e = let p = and_parts _ _ e in (eqb-true _ _ p.0, each_is f k xs p.1)

  pub all_are : (f : X → ℕ) (k : ℕ) (xs : List X) → AllByRecursion (λ x. f x ≡ k) xs → list_all (λ x. f x == k) xs ≡ true
  all_are f k [] h = refl
  all_are f k (x ∷ xs) h = and_from _ _ (eq-eqb _ _ h.0) (all_are f k xs h.1)

-- ---- bytes of a header's identifiers

frame_bytes_of_ids : (cs : List FrameComponent) → AreBytes (flat_map frame_component_bytes cs) → AreBytes (map (λ c. c.id) cs)
frame_bytes_of_ids [] h = tt
frame_bytes_of_ids (c ∷ cs) h = (h.0, frame_bytes_of_ids cs h.1.1.1)

-- the identifiers in a scan header's bytes are bytes
scan_bytes_of_ids : (cs : List ScanComponent) (tail : List ℕ) → AreBytes (flat_map scan_component_bytes cs ++ tail)
    → AreBytes (map (λ c. c.id) cs)
scan_bytes_of_ids [] tail h = tt
scan_bytes_of_ids (c ∷ cs) tail h = (h.0, scan_bytes_of_ids cs tail h.1.1)

-- ---- what is read is a payload

-- what is read as a frame is a payload of that frame
frame_read : (profile : Profile) (code : ℕ) (payload : List ℕ) → AreBytes payload → code ≡ sof55 → (o : Option FrameHeader)
    → frame_header payload ≡ o
    → (s : Segment) → frame_of o ≡ Ok s → IsPayloadUnder profile code payload s
frame_read profile code payload b ce None e s g = absurd cc
frame_read profile code payload b ce (Some h) e s g =
    let l = frame_header_there payload h b e in
    let t = all_pass (frame_tests h) (Frame (shape_in h)) s g in
    let bytes = subst AreBytes l.bytes b in
    let is : IsFrameHeaderOf (shape_in h) h = record {
      precision = refl;
      height = refl;
      width = refl;
      ids = refl;
      sampling = each_is (λ (c : FrameComponent). c.sampling) 0x11 h.components t.0.1.0;
      in_range = shape_in_range h.precision h.width h.height (frame_ids h) t.0.0 l.width_below l.height_below
          (frame_bytes_of_ids h.components bytes.1.1.1.1.1.1);
    } in
    subst (IsPayloadUnder profile code payload) t.1 (ce, (h, l, is))

not_true : (b : Bool) → not b ≡ true → b ≡ false
not_true true e = absurd cc
not_true false e = refl

-- what is read as a scan header is a payload of that header
scan_read : (profile : Profile) (code : ℕ) (payload : List ℕ) → AreBytes payload → code ≡ sos → (o : Option ScanHeader)
    → scan_header payload ≡ o
    → (s : Segment) → scan_of profile o ≡ Ok s → IsPayloadUnder profile code payload s
scan_read profile code payload b ce None e s g = absurd cc
scan_read profile code payload b ce (Some h) e s g =
    let l = scan_header_there payload h e in
    let t = all_pass (scan_tests profile h) (Scan (selection_in h)) s g in
    let bytes = subst AreBytes l.bytes b in
    let count : length (scan_ids h) ≡ length h.components = length-map h.components (λ (c : ScanComponent). c.id) in
    let ilv = has_interleave profile (length h.components) h.interleave t.0.1.1.1.0 in
    let is : IsScanHeaderUnder profile (selection_in h) h = record {
      ids = refl;
      tables = each_is (λ (c : ScanComponent). c.table) 0 h.components t.0.1.0;
      near = eqb-true _ _ t.0.1.1.0;
      interleave = ilv.again;
      point_transform = eqb-true _ _ t.0.1.1.1.1.0;
      in_range = record {
        ids_at_least = let a = l.components_at_least in omega (arith, count, a);
        ids_at_most = let a = l.components_at_most in omega (arith, count, a);
        ids_are_bytes = scan_bytes_of_ids h.components (h.near ∷ h.interleave ∷ h.approximation ∷ []) bytes.1;
        ids_differ = not_true _ t.0.0;
        interleaved = λ lt. ilv.interleaved (let m = lt in omega (arith, count, m));
        not_both = ilv.not_both;
        several = λ e. let m = ilv.several e in omega (arith, count, m);
      };
      of_profile = ilv.of_profile (scan_ids h);
    } in
    subst (IsPayloadUnder profile code payload) t.1 (ce, (h, l, is))

-- what is read of an LSE of ID 1 is a payload of that segment
preset_read : (profile : Profile) (code : ℕ) (values : List ℕ) → AreBytes values → code ≡ lse → (o : Option PresetParameters)
    → preset_parameters values ≡ o
    → (s : Segment) → preset_of o ≡ Ok s → IsPayloadUnder profile code (1 ∷ values) s
preset_read profile code values b ce None e s g = absurd cc
preset_read profile code values b ce (Some p) e s g =
    subst (IsPayloadUnder profile code (1 ∷ values)) (fine_is (Preset p.maxval p.t1 p.t2 p.t3 p.reset) s g)
    (ce, (values, refl, preset_there values p b e))

-- an ID that passes the test is 2 or 3
two_or_three : (id : ℕ) (values : List ℕ) → ((id == 2) || (id == 3)) ≡ true → HasLseId (id ∷ values) 2 ⊎ HasLseId (id ∷ values) 3
two_or_three id values e =
    elim (cases_Bool (id == 2)) [
      | inl t ↦ inl (values, ap (λ (k : ℕ). k ∷ values) (eqb-true id 2 t))
      | inr f ↦ inr (values, ap (λ (k : ℕ). k ∷ values) (eqb-true id 3 (rw f at e)))
    ]

-- what is read of an LSE is a payload of that segment
lse_read : (profile : Profile) (code : ℕ) (payload : List ℕ) → AreBytes payload → code ≡ lse → (s : Segment) → lse_of payload ≡ Ok s
    → IsPayloadUnder profile code payload s
lse_read profile code [] b ce s g = absurd cc
lse_read profile code (id ∷ values) b ce s g = by_id (id == 1) refl g
  where
    by_id : (t : Bool) → (id == 1) ≡ t
        → cond t (preset_of (preset_parameters values)) (first_failing (((id == 2) || (id == 3), fault.LseId) ∷ []) (Skipped lse)) ≡ Ok s
        → IsPayloadUnder profile code (id ∷ values) s
    by_id true e h =
        subst (λ (k : ℕ). IsPayloadUnder profile code (k ∷ values) s) (sym (eqb-true id 1 e))
        (preset_read profile code values b.1 ce (preset_parameters values) refl s h)
    by_id false e h =
        let t = all_pass (((id == 2) || (id == 3), fault.LseId) ∷ []) (Skipped lse) s h in
        subst (IsPayloadUnder profile code (id ∷ values)) t.1 (sym ce, inr (ce, two_or_three id values t.0.0))

-- what is read of a DRI is a payload of that segment
restart_read : (profile : Profile) (code : ℕ) (payload : List ℕ) → AreBytes payload → code ≡ dri → (o : Option ℕ)
    → restart_interval payload ≡ o → (s : Segment)
    → restart_of o ≡ Ok s → IsPayloadUnder profile code payload s
restart_read profile code payload b ce None e s g = absurd cc
restart_read profile code payload b ce (Some n) e s g =
    subst (IsPayloadUnder profile code payload) (fine_is (Restart n) s g) (ce, restart_there payload n b e)

module _ (profile : Profile) (code : ℕ) (payload : List ℕ) (b : AreBytes payload) (s : Segment) where
  -- what is skipped is a payload of such a segment
  at_skipped : (t : Bool) → is_skipped code ≡ t → cond t (Ok (Skipped code)) (Err fault.UnknownMarker) ≡ Ok s
      → IsPayloadUnder profile code payload s
  at_skipped true e h = subst (IsPayloadUnder profile code payload) (fine_is (Skipped code) s h) (refl, inl e)
  at_skipped false e h = absurd cc

  -- what is read from the code of a DRI on is a payload of that segment
  at_dri : (t : Bool) → eqb code dri ≡ t
      → cond t (restart_of (restart_interval payload)) (cond (is_skipped code) (Ok (Skipped code)) (Err fault.UnknownMarker)) ≡ Ok s
      → IsPayloadUnder profile code payload s
  at_dri true e h = restart_read profile code payload b (eqb-true _ _ e) (restart_interval payload) refl s h
  at_dri false e h = at_skipped (is_skipped code) refl h

  -- what is read from the code of an LSE on is a payload of that segment
  at_lse : (t : Bool) → eqb code lse ≡ t
      → cond t (lse_of payload) (cond (eqb code dri) (restart_of (restart_interval payload))
      (cond (is_skipped code) (Ok (Skipped code)) (Err fault.UnknownMarker))) ≡ Ok s
      → IsPayloadUnder profile code payload s
  at_lse true e h = lse_read profile code payload b (eqb-true _ _ e) s h
  at_lse false e h = at_dri (eqb code dri) refl h

  -- what is read from the code of an SOS on is a payload of that segment
  at_sos : (t : Bool) → eqb code sos ≡ t
      → cond t (scan_of profile (scan_header payload))
      (cond (eqb code lse) (lse_of payload)
      (cond (eqb code dri) (restart_of (restart_interval payload))
      (cond (is_skipped code) (Ok (Skipped code)) (Err fault.UnknownMarker)))) ≡ Ok s
      → IsPayloadUnder profile code payload s
  at_sos true e h = scan_read profile code payload b (eqb-true _ _ e) (scan_header payload) refl s h
  at_sos false e h = at_lse (eqb code lse) refl h

  -- what is read from the code of a frame on is a payload of that segment
  at_frame : (t : Bool) → eqb code sof55 ≡ t
      → cond t (frame_of (frame_header payload))
      (cond (eqb code sos) (scan_of profile (scan_header payload))
      (cond (eqb code lse) (lse_of payload)
      (cond (eqb code dri) (restart_of (restart_interval payload))
      (cond (is_skipped code) (Ok (Skipped code)) (Err fault.UnknownMarker))))) ≡ Ok s
      → IsPayloadUnder profile code payload s
  at_frame true e h = frame_read profile code payload b (eqb-true _ _ e) (frame_header payload) refl s h
  at_frame false e h = at_sos (eqb code sos) refl h

-- what is read as a segment is a payload of it
pub is_payload : (profile : Profile) (code : ℕ) (payload : List ℕ) (s : Segment) → AreBytes payload
    → segment_under profile code payload ≡ Ok s → IsPayloadUnder profile code payload s
is_payload profile code payload s b h = at_frame profile code payload b s (eqb code sof55) refl h

-- ---- and a payload is read

abbrev four : ℕ → ℕ → ℕ → List ℕ → PictureShape
four p x y ids = record { precision = p; width = x; height = y; ids = ids }

-- a frame header of a shape says that shape
shape_is : (s : PictureShape) (h : FrameHeader) → IsFrameHeaderOf s h → shape_in h ≡ s
shape_is s h is =
    ap (λ (p : ℕ). four p h.width h.height (frame_ids h)) is.precision
    ∙ ap (λ (x : ℕ). four s.precision x h.height (frame_ids h)) is.width
    ∙ ap (λ (y : ℕ). four s.precision s.width y (frame_ids h)) is.height
    ∙ ap (λ (ids : List ℕ). four s.precision s.width s.height ids) is.ids

-- a payload of a frame header is read as that header
frame_again : (profile : Profile) (payload : List ℕ) (s : PictureShape) (h : FrameHeader) → HasFrameLayout payload h → IsFrameHeaderOf s h
    → segment_under profile sof55 payload ≡ Ok (Frame s)
frame_again profile payload s h l is =
    let e = shape_is s h is in
    let shape : is_ok (shape_of h.precision h.width h.height (frame_ids h)) ≡ true =
    ap (λ (t : PictureShape). is_ok (shape_of t.precision t.width t.height t.ids)) e ∙ ap is_ok (shape_there s is.in_range) in
    ap frame_of (frame_header_of payload h l)
    ∙ none_fails (frame_tests h) (Frame (shape_in h))
    (shape, (all_are (λ (c : FrameComponent). c.sampling) 0x11 h.components is.sampling, tt))
    ∙ ap (λ (t : PictureShape). fine (Frame t)) e

abbrev chosen : List ℕ → Bool → Bool → ScanSelection
chosen ids line by_sample = record { ids = ids; line = line; by_sample = by_sample }

-- a scan header of a selection says that selection
selection_is : (profile : Profile) (s : ScanSelection) (h : ScanHeader) → IsScanHeaderUnder profile s h → selection_in h ≡ s
selection_is profile s h is =
    ap (λ (ids : List ℕ). chosen ids (h.interleave == 1) (h.interleave == 2)) is.ids
    ∙ ap (λ (k : ℕ). chosen s.ids (k == 1) (k == 2)) is.interleave
    ∙ ap (λ (line : Bool). chosen s.ids line (interleave_of s == 2)) (line_again s.line s.by_sample is.in_range.not_both)
    ∙ ap (chosen s.ids s.line) (sample_again s.line s.by_sample)

-- a payload of a scan header is read as that header
scan_again : (profile : Profile) (payload : List ℕ) (s : ScanSelection) (h : ScanHeader) → HasScanLayout payload h
    → IsScanHeaderUnder profile s h → segment_under profile sos payload ≡ Ok (Scan s)
scan_again profile payload s h l is =
    let n = length h.components in
    let count : n ≡ length s.ids = sym (length-map h.components (λ (c : ScanComponent). c.id)) ∙ ap length is.ids in
    let differ : not (has_repeat (scan_ids h)) ≡ true = ap (λ (ids : List ℕ). not (has_repeat ids)) is.ids
    ∙ ap not is.in_range.ids_differ in
    let taken = is_taken profile n s.ids s.line s.by_sample (λ lt. is.in_range.interleaved (let m = lt in omega (arith, count, m)))
    (λ e. let m = is.in_range.several e in omega (arith, count, m)) is.of_profile in
    let ilv = subst (λ (k : ℕ). takes_interleave profile n k ≡ true) (sym is.interleave) taken in
    ap (scan_of profile) (scan_header_of payload h l)
    ∙ none_fails (scan_tests profile h) (Scan (selection_in h)) (
      differ,
      (
        all_are (λ (c : ScanComponent). c.table) 0 h.components is.tables,
        (eq-eqb _ _ is.near, (ilv, (eq-eqb _ _ is.point_transform, tt))),
      ),
    )
    ∙ ap (λ (t : ScanSelection). fine (Scan t)) (selection_is profile s h is)

not_code : (code k : ℕ) → is_skipped code ≡ true → is_skipped k ≡ false → eqb code k ≡ false
not_code code k e f = ne_eqb code k (λ same. let g : true ≡ false = sym e ∙ ap is_skipped same ∙ f in absurd cc)

-- a payload of a segment that is skipped is read as such a segment
skipped_again : (profile : Profile) (code c : ℕ) (payload : List ℕ) → c ≡ code
    → (is_skipped code ≡ true) ⊎ ((code ≡ lse) × (HasLseId payload 2 ⊎ HasLseId payload 3))
    → segment_under profile code payload ≡ Ok (Skipped c)
skipped_again profile code c payload ce (inl e) =
    let a = not_code code sof55 e refl in
    let b = not_code code sos e refl in
    let d = not_code code lse e refl in
    let f = not_code code dri e refl in
    let g : segment_under profile code payload ≡ Ok (Skipped code) = rw (a, b, d, f, e) refl in
    g ∙ ap (λ (k : ℕ). fine (Skipped k)) (sym ce)
skipped_again profile code c payload ce (inr (k, inl (values, pe))) = ap (λ (x : ℕ). segment_under profile x payload) k ∙ ap lse_of pe
    ∙ ap (λ (x : ℕ). fine (Skipped x)) (sym k ∙ sym ce)
skipped_again profile code c payload ce (inr (k, inr (values, pe))) = ap (λ (x : ℕ). segment_under profile x payload) k ∙ ap lse_of pe
    ∙ ap (λ (x : ℕ). fine (Skipped x)) (sym k ∙ sym ce)

-- a payload of a segment is read as that segment
pub is_read : (profile : Profile) (code : ℕ) (payload : List ℕ) (s : Segment) → IsPayloadUnder profile code payload s
    → segment_under profile code payload ≡ Ok s
is_read profile code payload (Frame s) p =
    ap (λ (x : ℕ). segment_under profile x payload) p.0 ∙ frame_again profile payload s p.1.0 p.1.1 p.1.2
is_read profile code payload (Scan s) p =
    ap (λ (x : ℕ). segment_under profile x payload) p.0 ∙ scan_again profile payload s p.1.0 p.1.1 p.1.2
is_read profile code payload (Preset maxval t1 t2 t3 reset) p =
    ap (λ (x : ℕ). segment_under profile x payload) p.0 ∙ ap lse_of p.1.1
    ∙ ap preset_of (preset_of_layout p.1.0 (record { maxval = maxval; t1 = t1; t2 = t2; t3 = t3; reset = reset }) p.1.2)
is_read profile code payload (Restart n) p =
    ap (λ (x : ℕ). segment_under profile x payload) p.0 ∙ ap restart_of (restart_of_layout payload n p.1)
is_read profile code payload (Skipped c) p = skipped_again profile code c payload p.0 p.1
