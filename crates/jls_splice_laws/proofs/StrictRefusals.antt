-- What strict headers refuse, wide ones refuse with the same fault, but for the fault of a scan's interleaving.
use Rattle.std.proofs.Common.{◌≡◌, ℕ, Bool, true, false, cond, eqb, List, [], ◌∷◌, length, Option, Some, None, Result, Ok, Err}
use Rattle.std.proofs.Common.{refl, sym, ap, subst, ◌∙◌}
use Rattle.std.specs.Prelude.{◌==◌, ◌%◌, is_none, not}
use Rattle.std.specs.List.{list_all}
use Rattle.jls_values.specs.Shape.{PictureShape, has_repeat}
use Rattle.jls_marker.specs.Faults.{first_failing}
use Rattle.jls_marker.specs.HeaderState.{HeaderState}
use Rattle.jls_marker.specs.Headers.{scan_under, begun, accepted, taking, headers_after}
use Rattle.jls_marker.specs.Layouts.{ScanHeader, frame_header, scan_header}
use Rattle.jls_marker.specs.MarkerCodes.{sof55, sos}
use Rattle.jls_marker.specs.ProfileLaws.{under}
use Rattle.jls_marker.specs.Profiles.{takes_interleave}
use Rattle.jls_marker.specs.Scan.{Scan}
use Rattle.jls_marker.specs.Segments.{scan_ids, scan_of, selection_in, segment_under}
use Rattle.jls_marker.specs.declared.fault.MarkerFault.{MarkerFault}
use Rattle.jls_marker.specs.declared.fault.MarkerFault.TheVariants as fault
use Rattle.jls_marker.specs.declared.profile.Profile.{Profile}
use Rattle.jls_marker.specs.declared.profile.Profile.TheVariants.{Strict, Wide}
use Rattle.jls_marker.specs.declared.segment.Segment.{Segment}
use Rattle.jls_marker.specs.declared.segment.Segment.TheVariants as segment
use Rattle.jls_marker.proofs.HeaderSteps.{After}
use Rattle.jls_marker.proofs.Interleaving.{wide_takes}

-- Segments -----------------------------------------------------------------------------------------------------------

abbrev Answer : Type 0
Answer = Result Segment MarkerFault

abbrev refused : MarkerFault → Answer
refused f = Err f

-- an answer that is the same where what comes later is
same_on : (b : Bool) (e : MarkerFault) (ts us : List (Bool × MarkerFault)) (s : Segment) (r : Answer)
    → (first_failing ts s ≡ r → first_failing us s ≡ r) → first_failing ((b, e) ∷ ts) s ≡ r → first_failing ((b, e) ∷ us) s ≡ r
same_on true e ts us s r same = same
same_on false e ts us s r same = λ x. x

-- and where the test of the interleaving is passed, or the answer is another fault
same_there : (x y : Bool) (ts : List (Bool × MarkerFault)) (s : Segment) (r : Answer) → (x ≡ true → y ≡ true)
    → (r ≡ refused fault.Interleave → ⊥) → first_failing ((x, fault.Interleave) ∷ ts) s ≡ r
    → first_failing ((y, fault.Interleave) ∷ ts) s ≡ r
same_there true y ts s r more other e =
    subst (λ (b : Bool). first_failing ((b, fault.Interleave) ∷ ts) s ≡ r) (sym (more refl)) e
same_there false y ts s r more other e = absurd (other (sym e))

-- the tests of a scan header from some test on
abbrev from_transform : ScanHeader → List (Bool × MarkerFault)
from_transform h = (h.approximation % 16 == 0, fault.PointTransform) ∷ []

abbrev from_interleave : Profile → ScanHeader → List (Bool × MarkerFault)
from_interleave profile h = (takes_interleave profile (length h.components) h.interleave, fault.Interleave) ∷ from_transform h

abbrev from_near : Profile → ScanHeader → List (Bool × MarkerFault)
from_near profile h = (h.near == 0, fault.Lossy) ∷ from_interleave profile h

abbrev from_tables : Profile → ScanHeader → List (Bool × MarkerFault)
from_tables profile h = (list_all (λ c. c.table == 0) h.components, fault.MappingTable) ∷ from_near profile h

scans_same : (o : Option ScanHeader) (r : Answer) → (r ≡ refused fault.Interleave → ⊥) → scan_of Strict o ≡ r → scan_of Wide o ≡ r
scans_same None r other = λ e. e
scans_same (Some h) r other =
    let s : Segment = segment.Scan (selection_in h) in
    same_on (not (has_repeat (scan_ids h))) fault.RepeatedComponent (from_tables Strict h) (from_tables Wide h) s r
    (same_on (list_all (λ c. c.table == 0) h.components) fault.MappingTable (from_near Strict h) (from_near Wide h) s r
    (same_on (h.near == 0) fault.Lossy (from_interleave Strict h) (from_interleave Wide h) s r
    (same_there (takes_interleave Strict (length h.components) h.interleave) (takes_interleave Wide (length h.components) h.interleave)
    (from_transform h) s r (wide_takes (length h.components) h.interleave) other)))

same_choice : (b : Bool) (x y u v r : Answer) → (x ≡ r → y ≡ r) → (u ≡ r → v ≡ r) → cond b x u ≡ r → cond b y v ≡ r
same_choice true x y u v r p q = p
same_choice false x y u v r p q = q

segments_same : (code : ℕ) (payload : List ℕ) (r : Answer) → (r ≡ refused fault.Interleave → ⊥) → segment_under Strict code payload ≡ r
    → segment_under Wide code payload ≡ r
segments_same code payload r other =
    same_choice (eqb code sof55) _ _ _ _ r (λ e. e)
    (same_choice (eqb code sos) _ _ _ _ r (scans_same (scan_header payload) r other) (λ e. e))

-- Headers ------------------------------------------------------------------------------------------------------------

abbrev no_headers_left : MarkerFault → Result After MarkerFault
no_headers_left f = Err f

frame_refused : (h : HeaderState) (g : PictureShape) (b : Bool) (f : MarkerFault)
    → first_failing ((b, fault.SecondFrame) ∷ []) (record (under Strict h) { frame = Some g }, None) ≡ no_headers_left f
    → first_failing ((b, fault.SecondFrame) ∷ []) (record (under Wide h) { frame = Some g }, None) ≡ no_headers_left f
frame_refused h g true f e = absurd cc
frame_refused h g false f e = e

begin_refused : (h : HeaderState) (r : Result Scan MarkerFault) (f : MarkerFault) → begun (under Strict h) r ≡ no_headers_left f
    → begun (under Wide h) r ≡ no_headers_left f
begin_refused h (Ok scan) f e = absurd cc
begin_refused h (Err g) f e = e

segment_refused : (h : HeaderState) (s : Segment) (f : MarkerFault) → accepted (under Strict h) s ≡ no_headers_left f
    → accepted (under Wide h) s ≡ no_headers_left f
segment_refused h (segment.Frame g) f e = frame_refused h g (is_none h.frame) f e
segment_refused h (segment.Scan s) f e = begin_refused h (scan_under h s h.frame) f e
segment_refused h (segment.Preset a b c d r) f e = absurd cc
segment_refused h (segment.Restart n) f e = absurd cc
segment_refused h (segment.Skipped c) f e = absurd cc

module _ (h : HeaderState) (code : ℕ) (payload : List ℕ) (f : MarkerFault) (other : f ≡ fault.Interleave → ⊥) where
  of_read : (r : Answer) → segment_under Strict code payload ≡ r → taking (under Strict h) r ≡ no_headers_left f
      → taking (under Wide h) (segment_under Wide code payload) ≡ no_headers_left f
  of_read (Ok s) e refuses =
      ap (taking (under Wide h)) (segments_same code payload (Ok s) (λ (x : Ok s ≡ refused fault.Interleave). absurd cc) e)
      ∙ segment_refused h s f refuses
  of_read (Err g) e refuses =
      ap (taking (under Wide h)) (segments_same code payload (Err g) (λ (x : refused g ≡ refused fault.Interleave). other (own x)) e) ∙ refuses
    where
      own : refused g ≡ refused fault.Interleave → f ≡ fault.Interleave
      own x =
          let same : g ≡ f = cc in
          let is : g ≡ fault.Interleave = cc in
          sym same ∙ is

  pub refused_alike : h.profile ≡ Strict → headers_after h code payload ≡ no_headers_left f
      → headers_after (under Wide h) code payload ≡ no_headers_left f
  unfolding headers_after
  refused_alike strict e =
      let same : h ≡ under Strict h = λ i. record h { profile = strict i } in
      of_read (segment_under Strict code payload) refl
      (subst (λ (x : HeaderState). headers_after x code payload ≡ no_headers_left f) same e)
