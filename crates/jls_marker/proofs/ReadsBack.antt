-- What is written of a frame and of a scan is read as the same.
use Rattle.std.proofs.Common.{◌≡◌, ℕ, Bool, true, List, [], ◌∷◌, ◌++◌, length, map, Result, Ok, refl, sym, ap, ◌∙◌, arith}
use Rattle.std.specs.Prelude.{◌&&◌, ◌==◌, not, is_ok}
use Rattle.std.specs.List.{flat_map, list_all}
use Rattle.std.specs.Int.{w16, to_be_bytes}
use Rattle.std.proofs.lemmas.List.{length-map}
use Rattle.std.proofs.lemmas.List.Folds.{flat_map-map}
use Rattle.jls_values.specs.Shape.{PictureShape, IsShape, has_repeat}
use Rattle.jls_values.specs.ShapeOf.{shape_of}
use Rattle.jls_marker.specs.MarkerCodes.{sof55, sos}
use Rattle.jls_marker.specs.Layouts.{FrameComponent, FrameHeader, frame_component_bytes, frame_header_bytes, frame_header, ScanComponent}
use Rattle.jls_marker.specs.Layouts.{ScanHeader, scan_component_bytes, scan_header_bytes, scan_header}
use Rattle.jls_marker.specs.Profiles.{IsOfProfile}
use Rattle.jls_marker.specs.ScanSelection.{ScanSelection, IsScanSelection, interleave_of}
use Rattle.jls_marker.specs.Segments.{frame_tests, frame_of, shape_in, frame_ids, scan_tests, scan_of, selection_in, scan_ids}
use Rattle.jls_marker.specs.Segments.{segment_under}
use Rattle.jls_marker.specs.Written.{frame_payload, scan_payload}
use Rattle.jls_marker.specs.declared.fault.MarkerFault.{MarkerFault}
use Rattle.jls_marker.specs.declared.profile.Profile.{Profile}
use Rattle.jls_marker.specs.declared.segment.Segment.{Segment}
use Rattle.jls_marker.specs.declared.segment.Segment.TheVariants.{Frame, Scan}
use Rattle.jls_marker.proofs.FirstFailing.{none_fails}
use Rattle.jls_marker.proofs.ComponentLayouts.{frame_header_again, scan_header_again}
use Rattle.jls_marker.proofs.Interleaving.{is_taken, line_again, sample_again}
use Rattle.jls_marker.proofs.Shapes.{shape_there}

-- ---- components that are made of identifiers

module _ {C : Type 0} (made : ℕ → C) where
  -- have these again
  ids_again : (id_of : C → ℕ) → ((id : ℕ) → id_of (made id) ≡ id) → (ids : List ℕ) → map id_of (map made ids) ≡ ids
  ids_again id_of same [] = refl
  ids_again id_of same (id ∷ ids) = λ i. same id i ∷ ids_again id_of same ids i

  -- components that are made of identifiers pass a test that each made one passes
  each_passes : (p : C → Bool) → ((id : ℕ) → p (made id) ≡ true) → (ids : List ℕ) → list_all p (map made ids) ≡ true
  each_passes p each [] = refl
  each_passes p each (id ∷ ids) = (λ i. each id i && each_passes p each ids i)

-- ---- the frame

abbrev frame_component : ℕ → FrameComponent
frame_component id = record { id = id; sampling = 0x11; table = 0 }

abbrev written_frame : PictureShape → FrameHeader
written_frame s = record { precision = s.precision; height = s.height; width = s.width; components = map frame_component s.ids }

frame_bytes : (s : PictureShape) → frame_payload s ≡ frame_header_bytes (written_frame s)
frame_bytes s =
    ap (λ (t : List ℕ). s.precision ∷ (to_be_bytes w16 s.height ++ (to_be_bytes w16 s.width ++ t)))
    (ap (λ (n : ℕ). n ∷ flat_map (λ id. id ∷ 0x11 ∷ 0 ∷ []) s.ids) (sym (length-map s.ids frame_component))
    ∙ ap (λ (t : List ℕ). length (map frame_component s.ids) ∷ t) (sym (flat_map-map frame_component_bytes frame_component s.ids)))

abbrev framed : PictureShape → List ℕ → Result Segment MarkerFault
framed s ids = Ok (Frame (record { precision = s.precision; width = s.width; height = s.height; ids = ids }))

-- what is written of a frame is read as that frame
pub frame_reads_back : (profile : Profile) (s : PictureShape) → IsShape s → segment_under profile sof55 (frame_payload s) ≡ Ok (Frame s)
frame_reads_back profile s is =
    let h = written_frame s in
    let again = ids_again frame_component (λ c. c.id) (λ id. refl) s.ids in
    let shape : is_ok (shape_of s.precision s.width s.height (frame_ids h)) ≡ true =
    ap is_ok (ap (shape_of s.precision s.width s.height) again ∙ shape_there s is) in
    ap (λ (t : List ℕ). frame_of (frame_header t)) (frame_bytes s)
    ∙ ap frame_of (frame_header_again h is.height_below is.width_below)
    ∙ none_fails (frame_tests h) (Frame (shape_in h))
    (shape, (each_passes frame_component (λ c. c.sampling == 0x11) (λ id. refl) s.ids, tt))
    ∙ ap (framed s) again

-- ---- the scan

abbrev scan_component : ℕ → ScanComponent
scan_component id = record { id = id; table = 0 }

abbrev written_scan : ScanSelection → ScanHeader
written_scan s = record { components = map scan_component s.ids; near = 0; interleave = interleave_of s; approximation = 0 }

scan_bytes : (s : ScanSelection) → scan_payload s ≡ scan_header_bytes (written_scan s)
scan_bytes s =
    let tail = 0 ∷ interleave_of s ∷ 0 ∷ [] in
    ap (λ (n : ℕ). n ∷ (flat_map (λ id. id ∷ 0 ∷ []) s.ids ++ tail)) (sym (length-map s.ids scan_component))
    ∙ ap (λ (t : List ℕ). length (map scan_component s.ids) ∷ (t ++ tail)) (sym (flat_map-map scan_component_bytes scan_component s.ids))

abbrev selected : List ℕ → Bool → Bool → Result Segment MarkerFault
selected ids line by_sample = Ok (Scan (record { ids = ids; line = line; by_sample = by_sample }))

-- what is written of a scan header of a profile is read as that header
pub scan_reads_back : (profile : Profile) (s : ScanSelection) → IsScanSelection s → IsOfProfile profile s
    → segment_under profile sos (scan_payload s) ≡ Ok (Scan s)
scan_reads_back profile s is of_profile =
    let h = written_scan s in
    let k = interleave_of s in
    let again = ids_again scan_component (λ c. c.id) (λ id. refl) s.ids in
    let count : length h.components ≡ length s.ids = length-map s.ids scan_component in
    let differ : not (has_repeat (scan_ids h)) ≡ true = ap (λ (ids : List ℕ). not (has_repeat ids)) again ∙ ap not is.ids_differ in
    let taken = is_taken profile (length h.components) s.ids s.line s.by_sample
    (λ lt. is.interleaved (let m = lt in omega (arith, count, m))) (λ e. let m = is.several e in omega (arith, count, m)) of_profile in
    ap (λ (t : List ℕ). scan_of profile (scan_header t)) (scan_bytes s)
    ∙ ap (scan_of profile) (scan_header_again h (let a = is.ids_at_least in omega (arith, count, a))
    (let a = is.ids_at_most in omega (arith, count, a)))
    ∙ none_fails (scan_tests profile h) (Scan (selection_in h))
    (differ, (each_passes scan_component (λ c. c.table == 0) (λ id. refl) s.ids, (refl, (taken, (refl, tt)))))
    ∙ ap (λ (ids : List ℕ). selected ids (k == 1) (k == 2)) again
    ∙ ap (λ (line : Bool). selected s.ids line (k == 2)) (line_again s.line s.by_sample is.not_both)
    ∙ ap (selected s.ids s.line) (sample_again s.line s.by_sample)
