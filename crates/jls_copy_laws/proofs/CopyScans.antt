-- The scans of a copy are those of its course.
use Rattle.std.proofs.Common.{◌≡◌, ℕ, zero, suc, ◌+◌, ◌≢◌, true, List, [], ◌∷◌, ◌++◌, length, Option, Some, None, refl, sym, ◌∙◌, ap, subst}
use Rattle.std.proofs.Common.{arith}
use Rattle.std.specs.Prelude.{◌==◌}
use Rattle.std.specs.List.{flat_map}
use Rattle.std.proofs.lemmas.Bool.{or_right}
use Rattle.std.proofs.lemmas.Option.{same_Some}
use Rattle.jls_values.specs.Shape.{PictureShape}
use Rattle.jls_marker.specs.HeaderState.{HeaderState, IsHeaderState, no_headers}
use Rattle.jls_marker.specs.MarkerCodes.{sof55, sos, lse, dri, is_skipped, has_segment}
use Rattle.jls_marker.specs.Scan.{Scan}
use Rattle.jls_marker.specs.SegmentLaws.{AreBytes}
use Rattle.jls_marker.specs.declared.profile.Profile.TheVariants.{Strict}
use Rattle.jls_marker.proofs.HeaderSteps.{frame_stays}
use Rattle.jls_marker.proofs.HeadersKept.{headers_kept, no_headers_kept}
use Rattle.jls_marker.proofs.ProfileSteps.{profiles_stay}
use Rattle.jls_copy.specs.ScanData.{fill_bytes}
use Rattle.jls_copy.specs.Course.{CopyUnit, segment, scan, segment_unit_bytes, scan_data_bytes, unit_bytes, IsUnit, AreUnits, Course}
use Rattle.jls_copy.specs.Course.{IsCourse, with_soi, with_another_marker, with_no_marker, with_fill_alone}
use Rattle.jls_copy.specs.CourseLaws.{SomeCourse}
use Rattle.jls_copy.specs.declared.end.End.{End}
use Rattle.jls_copy.proofs.OneCourse.{one_unit, no_unit_at_end}
use Rattle.jls_copy.proofs.ScansOfCourse.{byte_parts, payload_bytes}
use Rattle.jls_copy.proofs.OneCut.{no_mark}
use Rattle.jls_copy_laws.specs.CopyLaws.{HasCourseWith, ScansAreOfTheCourse, OneListOfScans}
use Rattle.jls_copy_laws.specs.CopyScans.{IsCopyUnit, AreCopyUnits, ScanWithData, scans_of_unit, HasScans}
use Rattle.jls_copy_laws.specs.SegmentSets.{Sets}
use Rattle.jls_copy_laws.specs.SegmentSets as sets
use Rattle.jls_copy_laws.proofs.SegmentSets.{headers_set, sets_taken}

-- ---- one unit

-- what is skipped is a segment
skipped_has_segment : (code : ℕ) → is_skipped code ≡ true → has_segment code ≡ true
unfolding has_segment
skipped_has_segment code e =
    or_right (code == sof55) _ (or_right (code == sos) _ (or_right (code == lse) _ (or_right (code == dri) _ e)))

-- a segment that sets something has a code that segments follow
sets_has_segment : (h : HeaderState) (code : ℕ) (payload : List ℕ) (after : HeaderState) (scan : Option Scan)
    → Sets h code payload after scan → has_segment code ≡ true
unfolding has_segment
sets_has_segment _ _ _ _ _ (sets.frame h shape payload none is) = refl
sets_has_segment _ _ _ _ _ (sets.scan h ids payload s is begins) = refl
sets_has_segment _ _ _ _ _ (sets.presets h p below) = refl
sets_has_segment _ _ _ _ _ (sets.mapping_table h id table is) = refl
sets_has_segment _ _ _ _ _ (sets.restart h payload least most) = refl
sets_has_segment _ _ _ _ _ (sets.skipped h code payload e) = skipped_has_segment code e

-- so does the payload that begins a scan
pub scan_payload_bytes : (fill code : ℕ) (payload more : List ℕ) → AreBytes (segment_unit_bytes fill code payload ++ more)
    → AreBytes payload
scan_payload_bytes fill code payload more low =
    payload_bytes fill code payload (byte_parts (segment_unit_bytes fill code payload) more low).0

-- a unit of a strict course is one of a copy
unit_of_course : (h : HeaderState) (u : CopyUnit) (after : HeaderState) (rest : List ℕ) → h.profile ≡ Strict → AreBytes (unit_bytes u)
    → IsUnit h u after rest → IsCopyUnit h u after rest
unit_of_course h (segment fill code payload) after rest strict low (whole, taken) =
    (whole.1, headers_set h after code payload None strict (payload_bytes fill code payload low) taken)
unit_of_course h (scan fill code payload s closed last closing) after rest strict low (whole, taken, each, piece, following) =
    let in_segment = scan_payload_bytes fill code payload (scan_data_bytes closed last closing) low in
    (whole.1, headers_set h after code payload (Some s) strict in_segment taken, each, piece, following)

-- a unit of a copy is one of a course
pub unit_of_copy : (h : HeaderState) (u : CopyUnit) (after : HeaderState) (rest : List ℕ) → IsHeaderState h → AreBytes (unit_bytes u)
    → IsCopyUnit h u after rest → IsUnit h u after rest
unit_of_copy h (segment fill code payload) after rest state low (small, set) = (
  (sets_has_segment h code payload after None set, small),
  sets_taken h code payload after None state (payload_bytes fill code payload low) set,
)
unit_of_copy h (scan fill code payload s closed last closing) after rest state low (small, set, each, piece, following) =
    let in_segment = scan_payload_bytes fill code payload (scan_data_bytes closed last closing) low in (
      (sets_has_segment h code payload after (Some s) set, small),
      sets_taken h code payload after (Some s) state in_segment set,
      each,
      piece,
      following,
    )

-- headers stay in their ranges after a unit
pub unit_keeps : (h : HeaderState) (u : CopyUnit) (after : HeaderState) (rest : List ℕ) → IsHeaderState h → AreBytes (unit_bytes u)
    → IsUnit h u after rest → IsHeaderState after
unit_keeps h (segment fill code payload) after rest state low (whole, taken) =
    headers_kept h after code payload None state (payload_bytes fill code payload low) taken
unit_keeps h (scan fill code payload s closed last closing) after rest state low (whole, taken, each, piece, following) =
    headers_kept h after code payload (Some s) state (scan_payload_bytes fill code payload (scan_data_bytes closed last closing) low) taken

-- and their profile stays
pub unit_keeps_profile : (h : HeaderState) (u : CopyUnit) (after : HeaderState) (rest : List ℕ) → IsUnit h u after rest
    → after.profile ≡ h.profile
unit_keeps_profile h (segment fill code payload) after rest (whole, taken) = profiles_stay h after code payload None taken
unit_keeps_profile h (scan fill code payload s closed last closing) after rest (whole, taken, each, piece, following) =
    profiles_stay h after code payload (Some s) taken

-- and a frame that was taken before it
pub unit_keeps_frame : (h : HeaderState) (u : CopyUnit) (after : HeaderState) (rest : List ℕ) (f : PictureShape) → IsUnit h u after rest
    → h.frame ≡ Some f → after.frame ≡ Some f
unit_keeps_frame h (segment fill code payload) after rest f unit framed = frame_stays h after code payload None f unit.1 framed
unit_keeps_frame h (scan fill code payload s closed last closing) after rest f unit framed =
    frame_stays h after code payload (Some s) f unit.1 framed

-- a unit that begins bytes consists of bytes, and so does what follows it
pub unit_parts : (bytes rest : List ℕ) (u : CopyUnit) → AreBytes bytes → bytes ≡ unit_bytes u ++ rest
    → AreBytes (unit_bytes u) × AreBytes rest
unit_parts bytes rest u low e = byte_parts (unit_bytes u) rest (subst AreBytes e low)

-- ---- units one after the other

-- the units of a strict course are those of a copy
pub units_of_course : (h : HeaderState) (at : ℕ) (bytes : List ℕ) (units : List CopyUnit) (final : HeaderState) (e : End)
    → h.profile ≡ Strict → IsHeaderState h → AreBytes bytes → AreUnits h at bytes units final e → AreCopyUnits h bytes units final
units_of_course h at bytes [] final e strict state low (same, ends) = (
  same,
  λ u after rest is unit. (let parts = unit_parts bytes rest u low is in
      no_unit_at_end h at bytes e u after rest ends is (unit_of_copy h u after rest state parts.0 unit)),
)
units_of_course h at bytes (u ∷ units) final e strict state low (after, rest, is, unit, more) =
    let parts = unit_parts bytes rest u low is in (
      after,
      rest,
      is,
      unit_of_course h u after rest strict parts.0 unit,
      units_of_course after (at + length (unit_bytes u)) rest units final e (unit_keeps_profile h u after rest unit ∙ strict)
          (unit_keeps h u after rest state parts.0 unit) parts.1 more,
    )

-- two lists of units of the same bytes are one, and leave the same headers
pub same_units : (h : HeaderState) (bytes : List ℕ) (us vs : List CopyUnit) (l m : HeaderState) → IsHeaderState h → AreBytes bytes
    → AreCopyUnits h bytes us l → AreCopyUnits h bytes vs m → (us ≡ vs) × (l ≡ m)
same_units h bytes [] [] l m state low (p, none) (q, none') = (refl, p ∙ sym q)
same_units h bytes [] (v ∷ vs) l m state low (p, none) (after, rest, is, unit, more) = absurd (none v after rest is unit)
same_units h bytes (u ∷ us) [] l m state low (after, rest, is, unit, more) (q, none) = absurd (none u after rest is unit)
same_units h bytes (u ∷ us) (v ∷ vs) l m state low (a, r, is, unit, more) (b, s, is', unit', more') =
    let parts = unit_parts bytes r u low is in
    let x = unit_of_copy h u a r state parts.0 unit in
    let y = unit_of_copy h v b s state (unit_parts bytes s v low is').0 unit' in
    let k = one_unit h bytes u v a b r s is x is' y in
    let i = same_units a r us vs l m (unit_keeps h u a r state parts.0 x) parts.1 more (rw (k.headers, k.rests) more') in
    (ap (λ w. w ∷ us) k.units ∙ ap (λ ws. v ∷ ws) i.0, i.1)

-- ---- the first marker

-- after fill bytes a marker and what follows it are read in one way
same_marker : (m n c d : ℕ) (x y : List ℕ) → c ≢ 255 → d ≢ 255 → fill_bytes m ++ (255 ∷ c ∷ x) ≡ fill_bytes n ++ (255 ∷ d ∷ y)
    → (c ≡ d) × (x ≡ y)
same_marker zero zero c d x y p q e = (cc, cc)
same_marker zero (suc zero) c d x y p q e = absurd (p cc)
same_marker zero (suc (suc n)) c d x y p q e = absurd (p cc)
same_marker (suc zero) zero c d x y p q e = absurd (q cc)
same_marker (suc (suc m)) zero c d x y p q e = absurd (q cc)
same_marker (suc m) (suc n) c d x y p q e = same_marker m n c d x y p q cc

-- bytes that begin with another byte have none either
other_no_marker : (b n c : ℕ) (x y : List ℕ) → b ≢ 255 → b ∷ y ≡ fill_bytes n ++ (255 ∷ c ∷ x) → ⊥
other_no_marker b zero c x y p e = p cc
other_no_marker b (suc n) c x y p e = p cc

-- the code of SOI
abbrev soi : ℕ
soi = 216

-- it is no fill byte
soi_not_fill : soi ≢ 255
soi_not_fill e = omega (arith, e)

-- what stands after SOI consists of bytes
after_soi_bytes : (n : ℕ) (bytes : List ℕ) → AreBytes (fill_bytes n ++ (255 ∷ 216 ∷ bytes)) → AreBytes bytes
after_soi_bytes n bytes low = (byte_parts (fill_bytes n) (255 ∷ 216 ∷ bytes) low).1.1.1

-- ---- a copy

-- there is no frame before the first segment
no_frame : (shape : PictureShape) → None ≡ Some shape → ⊥
no_frame shape e = cc

-- bytes whose course takes a frame have its scans
pub course_has_scans : (copy : List ℕ) (c : Course) (shape : PictureShape) → AreBytes copy → IsCourse copy c
    → c.headers.frame ≡ Some shape → HasScans copy shape (flat_map scans_of_unit c.units)
course_has_scans _ _ shape low (with_soi n bytes units final e is) framed = record {
  are_bytes = low;
  fill = n;
  after_soi = bytes;
  copy_is = refl;
  units = units;
  headers = final;
  are_units = units_of_course no_headers (n + 2) bytes units final e refl no_headers_kept (after_soi_bytes n bytes low) is;
  framed = framed;
  scans_are = refl;
}
course_has_scans _ _ shape low (with_another_marker n code bytes p q) framed = absurd (no_frame shape framed)
course_has_scans _ _ shape low (with_no_marker b bytes p) framed = absurd (no_frame shape framed)
course_has_scans _ _ shape low (with_fill_alone n) framed = absurd (no_frame shape framed)

-- a course has the units of the copy and the headers that they leave
pub course_has_units : (copy : List ℕ) (c : Course) (shape : PictureShape) (scans : List ScanWithData) → IsCourse copy c
    → (h : HasScans copy shape scans) → (h.units ≡ c.units) × (h.headers ≡ c.headers)
course_has_units _ _ shape scans (with_soi n bytes units final e is) h =
    let following : h.after_soi ≡ bytes = sym (same_marker n h.fill soi soi bytes h.after_soi soi_not_fill soi_not_fill h.copy_is).1 in
    let low = after_soi_bytes n bytes h.are_bytes in
    same_units no_headers bytes h.units units h.headers final no_headers_kept low
    (subst (λ x. AreCopyUnits no_headers x h.units h.headers) following h.are_units)
    (units_of_course no_headers (n + 2) bytes units final e refl no_headers_kept low is)
course_has_units _ _ shape scans (with_another_marker n code bytes p q) h =
    absurd (q (same_marker n h.fill code soi bytes h.after_soi p soi_not_fill h.copy_is).0)
course_has_units _ _ shape scans (with_no_marker b bytes p) h =
    absurd (other_no_marker b h.fill soi h.after_soi bytes p h.copy_is)
course_has_units _ _ shape scans (with_fill_alone n) h = absurd (no_mark n h.fill soi h.after_soi soi_not_fill h.copy_is)

-- the course of bytes that have a frame and scans takes this frame, and has these scans
pub scans_of_course : (copy : List ℕ) (c : Course) (shape : PictureShape) (scans : List ScanWithData) → IsCourse copy c
    → HasScans copy shape scans → (c.headers.frame ≡ Some shape) × (scans ≡ flat_map scans_of_unit c.units)
scans_of_course copy c shape scans is h =
    let same = course_has_units copy c shape scans is h in
    (ap (λ (x : HeaderState). x.frame) (sym same.1) ∙ h.framed, h.scans_are ∙ ap (λ us. flat_map scans_of_unit us) same.0)

-- where each list of bytes has a course, bytes with a frame and scans have one with these
pub has_course_with : SomeCourse → (copy : List ℕ) (shape : PictureShape) (scans : List ScanWithData) → HasScans copy shape scans
    → HasCourseWith copy shape scans
has_course_with some copy shape scans h =
    let fed = some copy h.are_bytes in
    let of = scans_of_course copy fed.0 shape scans fed.1 h in
    record { course = fed.0; is_course = fed.1; framed = of.0; scans_are = of.1 }

-- bytes whose course has a frame and scans have these
pub has_scans : (copy : List ℕ) (shape : PictureShape) (scans : List ScanWithData) → AreBytes copy → HasCourseWith copy shape scans
    → HasScans copy shape scans
has_scans copy shape scans low h =
    subst (λ x. HasScans copy shape x) (sym h.scans_are) (course_has_scans copy h.course shape low h.is_course h.framed)

-- the law, where each list of bytes has a course: the scans of bytes are those of their course
pub scans_are_of_the_course : SomeCourse → ScansAreOfTheCourse
scans_are_of_the_course some copy shape scans low = (has_course_with some copy shape scans, has_scans copy shape scans low)

-- the law: a copy has one frame and one list of scans at most
pub one_list_of_scans : OneListOfScans
one_list_of_scans copy shape shape' scans scans' h k =
    let first = same_marker k.fill h.fill soi soi k.after_soi h.after_soi soi_not_fill soi_not_fill (sym k.copy_is ∙ h.copy_is) in
    let following : h.after_soi ≡ k.after_soi = sym first.1 in
    let low : AreBytes k.after_soi = after_soi_bytes k.fill k.after_soi (subst AreBytes k.copy_is k.are_bytes) in
    let same = same_units no_headers k.after_soi h.units k.units h.headers k.headers no_headers_kept low
    (subst (λ x. AreCopyUnits no_headers x h.units h.headers) following h.are_units) k.are_units in (
      same_Some shape shape' (sym h.framed ∙ ap (λ (x : HeaderState). x.frame) same.1 ∙ k.framed),
      h.scans_are ∙ ap (λ us. flat_map scans_of_unit us) same.0 ∙ sym k.scans_are,
    )
