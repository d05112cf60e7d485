-- What a file gives under the strict profile, it gives under the wide one: the units of the strict course are the first of the wide one.
use Rattle.std.proofs.Common.{◌≡◌, ℕ, ◌+◌, Bool, true, false, List, [], ◌∷◌, ◌++◌, length, Some, inl, inr}
use Rattle.std.proofs.Common.{refl, sym, ap, ◌∙◌, subst}
use Rattle.std.specs.Prelude.{if◌then◌else◌}
use Rattle.std.specs.List.{Contains}
use Rattle.std.proofs.lemmas.List.{append-nil}
use Rattle.std.proofs.lemmas.List.Elements.{Contains-append_left, Contains-append_right, Contains-append_cases}
use Rattle.jls_values.specs.Shape.{PictureShape}
use Rattle.jls_partial.specs.Reading.{Reading}
use Rattle.jls_marker.specs.HeaderState.{HeaderState, no_headers, no_headers_under}
use Rattle.jls_marker.specs.ProfileLaws.{under}
use Rattle.jls_marker.specs.declared.profile.Profile.TheVariants.{Strict, Wide}
use Rattle.jls_copy.specs.ScanData.{fill_bytes}
use Rattle.jls_copy.specs.Course.{AreUnits, Course, CopyUnit, IsCourse, IsCourseUnder, IsUnit, without_units, unit_bytes}
use Rattle.jls_copy.specs.Course.{by_input, by_marker, segment, scan, with_soi, with_another_marker, with_no_marker, with_fill_alone}
use Rattle.jls_copy.specs.CutPieces.{closed_by_input, is_cut, last_piece}
use Rattle.jls_copy.specs.Pieces.{FoundPiece, pieces_in, scans_in, unit_pieces}
use Rattle.jls_copy.specs.Prefixes.{CourseHasReading}
use Rattle.jls_copy.specs.declared.end.End.{End}
use Rattle.jls_copy.specs.declared.end.End.TheVariants.{Header}
use Rattle.jls_marker.specs.declared.fault.MarkerFault.TheVariants as fault
use Rattle.jls_copy.proofs.CourseFed.{course_fed}
use Rattle.jls_copy.proofs.OneCourse.{Same, no_unit_at_end, one_unit}
use Rattle.jls_copy.proofs.OneCut.{no_mark}
use Rattle.jls_copy_laws.proofs.CopyScans.{unit_keeps_frame, unit_keeps_profile}
use Rattle.jls_copy_laws.proofs.Members.{none_in}
use Rattle.jls_carry_laws.proofs.SameHeads.{one_mark}
use Rattle.jls_carry_laws.proofs.StrictHeads.{no_first, not_soi}
use Rattle.jls_carry_laws.proofs.UnitsWalk.{unit_not_empty}
use Rattle.jls_splice_laws.proofs.StrictCourses.{unit_of}
use Rattle.jls_splice_laws.specs.ProfileFiles.{HasShapeUnder, WideGivesWhatStrictGives}

-- Units ------------------------------------------------------------------------------------------------------------

-- units, with more behind them. They keep the frame, and there are no more behind a piece that the input's end closes
record Longer (us vs : List CopyUnit) (l m : HeaderState) : Type 0 where
  more : List CopyUnit
  units : vs ≡ us ++ more
  frame : (shape : PictureShape) → l.frame ≡ Some shape → m.frame ≡ Some shape
  uncut : closed_by_input us ≡ true → more ≡ []

units_frame : (h : HeaderState) (at : ℕ) (x : List ℕ) (us : List CopyUnit) (final : HeaderState) (e : End) (shape : PictureShape)
    → AreUnits h at x us final e → h.frame ≡ Some shape → final.frame ≡ Some shape
units_frame h at x [] final e shape (same, ends) framed = ap (λ (y : HeaderState). y.frame) same ∙ framed
units_frame h at x (u ∷ us) final e shape (after, rest, is, unit, more) framed =
    units_frame after (at + length (unit_bytes u)) rest us final e shape more (unit_keeps_frame h u after rest shape unit framed)

-- no byte follows a piece that the input's end closes
nothing_follows : (h : HeaderState) (u : CopyUnit) (after : HeaderState) (rest : List ℕ) → IsUnit h u after rest → is_cut u ≡ true
    → rest ≡ []
nothing_follows h (segment fill code payload) after rest unit cut = absurd cc
nothing_follows h (scan fill code payload plan closed last (by_input count)) after rest (whole, taken, each, piece, following) cut =
    following
nothing_follows h (scan fill code payload plan closed last by_marker) after rest unit cut = absurd cc

no_units : (h : HeaderState) (at : ℕ) (us : List CopyUnit) (final : HeaderState) (e : End) → AreUnits h at [] us final e → us ≡ []
no_units h at [] final e are = refl
no_units h at (u ∷ us) final e (after, rest, is, unit, more) = absurd (unit_not_empty u rest is)

behind_cut : (u : CopyUnit) (us more : List CopyUnit) → (us ≡ [] → is_cut u ≡ true → more ≡ []) → (closed_by_input us ≡ true → more ≡ [])
    → closed_by_input (u ∷ us) ≡ true → more ≡ []
behind_cut u [] more last others cut = last refl cut
behind_cut u (v ∷ us) more last others cut = others cut

longer : (h : HeaderState) (at : ℕ) (x : List ℕ) (us vs : List CopyUnit) (l m : HeaderState) (d e : End) → h.profile ≡ Strict
    → AreUnits h at x us l d → AreUnits (under Wide h) at x vs m e → Longer us vs l m
longer h at x [] vs l m d e strict (same, ends) are = record {
  more = vs;
  units = refl;
  frame = λ shape framed.
      units_frame (under Wide h) at x vs m e shape are (ap (λ (y : HeaderState). y.frame) (sym same) ∙ framed);
  uncut = λ cut. absurd cc;
}
longer h at x (u ∷ us) [] l m d e strict (a, r, is, unit, others) (same, ends) =
    absurd (no_unit_at_end (under Wide h) at x e u (under Wide a) r ends is (unit_of h u a r strict unit))
longer h at x (u ∷ us) (v ∷ vs) l m d e strict (a, r, is, unit, others) (b, s, is_v, unit_v, others_v) =
    let wide : IsUnit (under Wide h) u (under Wide a) r = unit_of h u a r strict unit in
    let k : Same u v (under Wide a) b r s = one_unit (under Wide h) x u v (under Wide a) b r s is wide is_v unit_v in
    let there : AreUnits b (at + length (unit_bytes u)) s vs m e =
    subst (λ (w : CopyUnit). AreUnits b (at + length (unit_bytes w)) s vs m e) (sym k.units) others_v in
    let same : AreUnits (under Wide a) (at + length (unit_bytes u)) r vs m e =
    subst (λ (g : HeaderState). AreUnits g (at + length (unit_bytes u)) r vs m e) (sym k.headers)
    (subst (λ (y : List ℕ). AreUnits b (at + length (unit_bytes u)) y vs m e) (sym k.rests) there) in
    let i = longer a (at + length (unit_bytes u)) r us vs l m d e (unit_keeps_profile h u a r unit ∙ strict) others same in
    let last : us ≡ [] → is_cut u ≡ true → i.more ≡ [] =
    λ none cut.
    let none_v : vs ≡ [] = no_units (under Wide a) (at + length (unit_bytes u)) vs m e
    (subst (λ (y : List ℕ). AreUnits (under Wide a) (at + length (unit_bytes u)) y vs m e) (nothing_follows h u a r unit cut) same) in
    sym (subst (λ (w : List CopyUnit). vs ≡ w ++ i.more) none i.units) ∙ none_v in
    record {
      more = i.more;
      units = ap (λ (w : CopyUnit). w ∷ vs) (sym k.units) ∙ ap (λ (ws : List CopyUnit). u ∷ ws) i.units;
      frame = i.frame;
      uncut = behind_cut u us i.more last i.uncut;
    }

-- Pieces -----------------------------------------------------------------------------------------------------------

in_more : (index at : ℕ) (us more : List CopyUnit) (p : FoundPiece) → Contains (pieces_in index at us) p
    → Contains (pieces_in index at (us ++ more)) p
in_more index at [] more p m = absurd (none_in p m)
in_more index at (u ∷ us) more p m =
    let next : ℕ = index + scans_in u in
    let place : ℕ = at + length (unit_bytes u) in
    elim (Contains-append_cases (unit_pieces index at u) (pieces_in next place us) p m) [
      | inl own ↦ Contains-append_left (unit_pieces index at u) (pieces_in next place (us ++ more)) p own
      | inr later ↦ Contains-append_right (unit_pieces index at u) (pieces_in next place (us ++ more)) p
          (in_more next place us more p later)
    ]

-- the piece that the input's end closes, of a course that begins here
abbrev cut_at : ℕ → List CopyUnit → List FoundPiece
cut_at begin us = if closed_by_input us then last_piece (pieces_in 0 begin us) else []

is_closed : (b : Bool) (ps : List FoundPiece) (p : FoundPiece) → Contains (if b then ps else []) p → b ≡ true
is_closed true ps p m = refl
is_closed false ps p m = absurd (none_in p m)

-- Courses ----------------------------------------------------------------------------------------------------------

-- the wide course, where the file begins with SOI
from_soi : (n : ℕ) (bytes file : List ℕ) (w : Course) → file ≡ fill_bytes n ++ (255 ∷ 216 ∷ bytes) → IsCourseUnder Wide file w
    → AreUnits (no_headers_under Wide) (n + 2) bytes w.units w.headers w.end × (w.begin ≡ n + 2)
from_soi n bytes _ _ is (with_soi k others units final e are) =
    let one = one_mark k n 216 216 others bytes (not_soi 216 refl) (not_soi 216 refl) is in (
      subst (λ (y : List ℕ). AreUnits (no_headers_under Wide) (n + 2) y units final e) one.2
          (subst (λ (i : ℕ). AreUnits (no_headers_under Wide) (i + 2) others units final e) one.0 are),
      ap (λ (i : ℕ). i + 2) one.0,
    )
from_soi n bytes _ _ is (with_another_marker k code others p q) = absurd (q (one_mark k n code 216 others bytes p (not_soi 216 refl) is).1)
from_soi n bytes _ _ is (with_no_marker b others p) = absurd (no_first n b others (216 ∷ bytes) p is)
from_soi n bytes _ _ is (with_fill_alone k) = absurd (no_mark k n 216 bytes (not_soi 216 refl) is)

-- the wide course gives what the strict one gives, and has its frame
record HasAll (c w : Course) : Type 0 where
  gives : (r : Reading) → CourseHasReading c r → CourseHasReading w r
  frame : (shape : PictureShape) → c.headers.frame ≡ Some shape → w.headers.frame ≡ Some shape

-- a course without units gives nothing, and has no frame
nothing_given : (begin : ℕ) (e : End) (w : Course) → HasAll (without_units begin e) w
nothing_given begin e w = record { gives = λ r gives. absurd (none r gives); frame = λ shape is. absurd cc }
  where
    none : (r : Reading) → CourseHasReading (without_units begin e) r → ⊥
    none r (inl (p, m, lines, reads, among)) = none_in p m
    none r (inr (p, m, head, is_head, among)) = none_in p m

has_all : (file : List ℕ) (c w : Course) → IsCourse file c → IsCourseUnder Wide file w → HasAll c w
has_all _ _ w (with_soi n bytes units final e are) wide =
    let s = from_soi n bytes (fill_bytes n ++ (255 ∷ 216 ∷ bytes)) w refl wide in
    let k = longer no_headers (n + 2) bytes units w.units final w.headers e w.end refl are s.0 in
    let piece : (p : FoundPiece) → Contains (pieces_in 0 (n + 2) units) p → Contains (pieces_in 0 w.begin w.units) p =
    λ p m. subst (λ (i : ℕ). Contains (pieces_in 0 i w.units) p) (sym s.1)
    (subst (λ (us : List CopyUnit). Contains (pieces_in 0 (n + 2) us) p) (sym k.units) (in_more 0 (n + 2) units k.more p m)) in
    let cut : (p : FoundPiece) → Contains (cut_at (n + 2) units) p → Contains (cut_at w.begin w.units) p =
    λ p m.
    let none : k.more ≡ [] = k.uncut (is_closed (closed_by_input units) (last_piece (pieces_in 0 (n + 2) units)) p m) in
    let same : w.units ≡ units = k.units ∙ ap (λ (us : List CopyUnit). units ++ us) none ∙ append-nil units in
    subst (λ (i : ℕ). Contains (cut_at i w.units) p) (sym s.1)
    (subst (λ (us : List CopyUnit). Contains (cut_at (n + 2) us) p) (sym same) m) in
    record {
      gives = λ r gives. elim gives [
        | inl (p, m, lines, reads, among) ↦ inl (p, piece p m, lines, reads, among)
        | inr (p, m, head, is_head, among) ↦ inr (p, cut p m, head, is_head, among)
      ];
      frame = k.frame;
    }
has_all _ _ w (with_another_marker n code bytes p q) wide = nothing_given n (Header fault.NoSoi n) w
has_all _ _ w (with_no_marker b bytes p) wide = nothing_given 0 (Header fault.NoSoi 0) w
has_all _ _ w (with_fill_alone n) wide = nothing_given n (Header fault.Ended n) w

pub wide_gives_what_strict_gives : WideGivesWhatStrictGives
wide_gives_what_strict_gives file = (
  λ shape has.
      let w = course_fed Wide file has.bytes in
      record {
        bytes = has.bytes;
        course = w.0;
        is_course = w.1;
        framed = (has_all file has.course w.0 has.is_course w.1).frame shape has.framed;
      },
  λ r (shape, has, gives).
      let w = course_fed Wide file has.bytes in
      let all = has_all file has.course w.0 has.is_course w.1 in (
        shape,
        record { bytes = has.bytes; course = w.0; is_course = w.1; framed = all.frame shape has.framed },
        all.gives r gives,
      ),
)
