-- Which faults a whole segment can have.
use Rattle.std.proofs.Common.{◌≡◌, ℕ, Bool, true, false, cond, eqb, List, [], ◌∷◌, Option, Some, None, Result, Ok, Err, refl, subst}
use Rattle.std.specs.Prelude.{◌||◌, ◌==◌, is_none}
use Rattle.std.specs.List.{list_all}
use Rattle.std.proofs.lemmas.Bool.{and_parts, or_from}
use Rattle.jls_values.specs.Shape.{PictureShape}
use Rattle.jls_marker.specs.Faults.{first_failing}
use Rattle.jls_marker.specs.HeaderState.{HeaderState}
use Rattle.jls_marker.specs.Headers.{begin_tests, scan_in, scan_under, begun, accepted, taking, headers_after}
use Rattle.jls_marker.specs.Layouts.{FrameHeader, frame_header, ScanHeader, scan_header, preset_parameters, restart_interval}
use Rattle.jls_marker.specs.MarkerCodes.{sof55, sos, lse, dri, is_skipped, has_segment}
use Rattle.jls_values.specs.PresetParameters.{PresetParameters}
use Rattle.jls_marker.specs.Scan.{Scan}
use Rattle.jls_marker.specs.ScanSelection.{ScanSelection}
use Rattle.jls_marker.specs.Segments.{frame_tests, frame_of, shape_in, scan_tests, scan_of, selection_in, preset_of, lse_of, restart_of}
use Rattle.jls_marker.specs.Segments.{segment_under}
use Rattle.jls_marker.specs.declared.fault.MarkerFault.{MarkerFault}
use Rattle.jls_marker.specs.declared.fault.MarkerFault.TheVariants as fault
use Rattle.jls_marker.specs.declared.profile.Profile.{Profile}
use Rattle.jls_marker.specs.declared.segment.Segment.{Segment}
use Rattle.jls_marker.specs.declared.segment.Segment.TheVariants as segment
use Rattle.jls_copy.specs.TellingLaws.{is_of_segment}

-- a value, or a fault of a segment
abbrev IsFine : {A : Type 0} → Result A MarkerFault → Type 0
IsFine (Ok x) = Unit {0}
IsFine (Err f) = is_of_segment f ≡ true

-- tests with faults of a segment alone fail for such a fault
first_fine : {A : Type 0} (tests : List (Bool × MarkerFault)) (v : A) → list_all (λ t. is_of_segment t.1) tests ≡ true
    → IsFine (first_failing tests v)
first_fine [] v all = tt
first_fine ((true, g) ∷ tests) v all = first_fine tests v (and_parts (is_of_segment g) (list_all (λ t. is_of_segment t.1) tests) all).1
first_fine ((false, g) ∷ tests) v all = (and_parts (is_of_segment g) (list_all (λ t. is_of_segment t.1) tests) all).0

cond_fine : {A : Type 0} (b : Bool) (x y : Result A MarkerFault) → (b ≡ true → IsFine x) → (b ≡ false → IsFine y) → IsFine (cond b x y)
cond_fine true x y t f = t refl
cond_fine false x y t f = f refl

-- Payloads ---------------------------------------------------------------------------------------------------------

frame_fine : (o : Option FrameHeader) → IsFine (frame_of o)
frame_fine None = refl
frame_fine (Some h) = first_fine (frame_tests h) (segment.Frame (shape_in h)) refl

scan_fine : (profile : Profile) (o : Option ScanHeader) → IsFine (scan_of profile o)
scan_fine profile None = refl
scan_fine profile (Some h) = first_fine (scan_tests profile h) (segment.Scan (selection_in h)) refl

preset_fine : (o : Option PresetParameters) → IsFine (preset_of o)
preset_fine None = refl
preset_fine (Some p) = tt

lse_fine : (payload : List ℕ) → IsFine (lse_of payload)
lse_fine [] = refl
lse_fine (id ∷ values) = cond_fine (id == 1) _ _ (λ _. preset_fine (preset_parameters values))
    (λ _. first_fine (((id == 2) || (id == 3), fault.LseId) ∷ []) (segment.Skipped lse) refl)

restart_fine : (o : Option ℕ) → IsFine (restart_of o)
restart_fine None = refl
restart_fine (Some n) = tt

-- a segment with a known code is taken, or is refused for a fault of a segment
segment_fine : (profile : Profile) (code : ℕ) (payload : List ℕ) → has_segment code ≡ true → IsFine (segment_under profile code payload)
unfolding has_segment
segment_fine profile code payload known =
    cond_fine (eqb code sof55) _ _ (λ _. frame_fine (frame_header payload))
    (λ a. cond_fine (eqb code sos) _ _ (λ _. scan_fine profile (scan_header payload))
    (λ b. cond_fine (eqb code lse) _ _ (λ _. lse_fine payload)
    (λ c. cond_fine (eqb code dri) _ _ (λ _. restart_fine (restart_interval payload))
    (λ d. cond_fine (is_skipped code) _ _ (λ _. tt)
    (λ e. let never : has_segment code ≡ false = or_from _ _ a (or_from _ _ b (or_from _ _ c (or_from _ _ d e))) in absurd cc)))))

-- Headers ----------------------------------------------------------------------------------------------------------

under_fine : (h : HeaderState) (s : ScanSelection) (o : Option PictureShape) → IsFine (scan_under h s o)
under_fine h s None = refl
under_fine h s (Some f) =
    first_fine (begin_tests f h.preset h.restart_interval h.scans s) (scan_in f h.preset h.restart_interval s) refl

begun_fine : (h : HeaderState) (r : Result Scan MarkerFault) → IsFine r → IsFine (begun h r)
begun_fine h (Ok scan) fine = tt
begun_fine h (Err f) fine = fine

-- headers refuse a segment for a fault of a segment alone
accepted_fine : (h : HeaderState) (s : Segment) → IsFine (accepted h s)
accepted_fine h (segment.Frame f) = first_fine ((is_none h.frame, fault.SecondFrame) ∷ []) (record h { frame = Some f }, None) refl
accepted_fine h (segment.Scan s) = begun_fine h (scan_under h s h.frame) (under_fine h s h.frame)
accepted_fine h (segment.Preset maxval t1 t2 t3 reset) = tt
accepted_fine h (segment.Restart n) = tt
accepted_fine h (segment.Skipped code) = tt

taking_fine : (h : HeaderState) (r : Result Segment MarkerFault) → IsFine r → IsFine (taking h r)
taking_fine h (Ok s) fine = accepted_fine h s
taking_fine h (Err f) fine = fine

-- the fault of a whole segment is one of a segment
pub segment_fault : (h : HeaderState) (code : ℕ) (payload : List ℕ) (f : MarkerFault) → has_segment code ≡ true
    → headers_after h code payload ≡ Err f → is_of_segment f ≡ true
unfolding headers_after
segment_fault h code payload f known e =
    subst (λ (r : Result (HeaderState × Option Scan) MarkerFault). IsFine r) e
    (taking_fine h (segment_under h.profile code payload) (segment_fine h.profile code payload known))
