-- Whether a file ends at EOI, by what was read of it.
use Rattle.std.proofs.Common.{◌≡◌, ℕ, ◌+◌, Bool, true, false, List, [], ◌∷◌, refl, sym, ap, ◌∙◌, subst}
use Rattle.std.specs.Prelude.{◌↔◌, IsTrue, is_some}
use Rattle.jls_marker.specs.HeaderState.{HeaderState, no_headers_under}
use Rattle.jls_marker.specs.declared.fault.MarkerFault.{MarkerFault}
use Rattle.jls_marker.specs.declared.profile.Profile.TheVariants.{Wide}
use Rattle.jls_copy.specs.Course.{AreUnits, Course, CopyUnit, Ends, EndsHere, IsCourseUnder}
use Rattle.jls_copy.specs.Course.{at_eoi, at_eoi_before_a_frame, at_no_marker, at_unknown_code, at_short_length, at_refused_segment}
use Rattle.jls_copy.specs.Course.{for_good, with_the_input, in_a_unit}
use Rattle.jls_copy.specs.Course.{with_soi, with_another_marker, with_no_marker, with_fill_alone}
use Rattle.jls_copy.specs.CourseLaws.{OneCourseUnder}
use Rattle.jls_copy.specs.CopyReads.{CopyGivesNoneUnder}
use Rattle.jls_copy.specs.declared.end.End.{End}
use Rattle.jls_copy.specs.declared.end.End.TheVariants.{Eoi}
use Rattle.jls_copy.specs.declared.reader.CopyFault.TheVariants.{NoPicture}
use Rattle.jls_splice_run.specs.Completing.{EndsAtEoi, IsCompleted, with_eoi, within_eoi, without_eoi, elsewhere}

-- at EOI a frame was taken
framed_here : (h : HeaderState) (at : ℕ) (bytes : List ℕ) (e : End) (o : ℕ) → EndsHere h at bytes e → e ≡ Eoi o → is_some h.frame ≡ true
framed_here _ _ _ _ o (at_eoi h at n more framed) same = framed
framed_here _ _ _ _ o (at_eoi_before_a_frame h at n more none) same = absurd cc
framed_here _ _ _ _ o (at_no_marker h at b more other) same = absurd cc
framed_here _ _ _ _ o (at_unknown_code h at n code more p q r) same = absurd cc
framed_here _ _ _ _ o (at_short_length h at n code high low more p q) same = absurd cc
framed_here _ _ _ _ o (at_refused_segment h at n code payload more f p q) same = absurd cc

framed_end : (h : HeaderState) (at : ℕ) (bytes : List ℕ) (e : End) (o : ℕ) → Ends h at bytes e → e ≡ Eoi o → is_some h.frame ≡ true
framed_end _ _ _ _ o (for_good h at bytes e here) same = framed_here h at bytes e o here same
framed_end _ _ _ _ o (with_the_input h at) same = absurd cc
framed_end _ _ _ _ o (in_a_unit h at bytes part) same = absurd cc

framed_units : (h : HeaderState) (at : ℕ) (bytes : List ℕ) (units : List CopyUnit) (final : HeaderState) (o : ℕ)
    → AreUnits h at bytes units final (Eoi o) → is_some final.frame ≡ true
framed_units h at bytes [] final o (same, ends) =
    subst (λ (s : HeaderState). is_some s.frame ≡ true) (sym same) (framed_end h at bytes (Eoi o) o ends refl)
framed_units h at bytes (u ∷ us) final o (after, rest, is, unit, more) = framed_units after _ rest us final o more

framed_course : (file : List ℕ) (c : Course) (o : ℕ) → IsCourseUnder Wide file c → c.end ≡ Eoi o → is_some c.headers.frame ≡ true
framed_course _ _ o (with_soi n bytes units final e are) same =
    framed_units (no_headers_under Wide) (n + 2) bytes units final o
    (subst (λ (x : End). AreUnits (no_headers_under Wide) (n + 2) bytes units final x) same are)
framed_course _ _ o (with_another_marker n code bytes p q) same = absurd cc
framed_course _ _ o (with_no_marker b bytes p) same = absurd cc
framed_course _ _ o (with_fill_alone n) same = absurd cc

-- and where there is no picture
pub none_so : OneCourseUnder Wide → (file : List ℕ) (f : MarkerFault) (n : ℕ) → CopyGivesNoneUnder Wide file (NoPicture f n)
    → EndsAtEoi file → ⊥
none_so one file f n (c, is, none, fault) (d, at, o, e) =
    let framed : is_some d.headers.frame ≡ true = framed_course file d o at e in
    let bare : is_some d.headers.frame ≡ false =
    ap (λ (x : Course). is_some x.headers.frame) (one file d c at is) ∙ ap is_some none in
    absurd cc

-- a file is completed to one list of bytes
pub completed_once : (file a b : List ℕ) → IsCompleted file a → IsCompleted file b → a ≡ b
completed_once file _ _ (with_eoi p) (with_eoi q) = refl
completed_once file _ _ (with_eoi p) (within_eoi n q) = absurd (n p)
completed_once file _ _ (with_eoi p) (without_eoi n m q) = absurd (n p)
completed_once file _ _ (with_eoi p) (elsewhere n m q) = absurd (n p)
completed_once file _ _ (within_eoi l p) (with_eoi q) = absurd (l q)
completed_once file _ _ (within_eoi l p) (within_eoi n q) = refl
completed_once file _ _ (within_eoi l p) (without_eoi n m q) = absurd (m p)
completed_once file _ _ (within_eoi l p) (elsewhere n m q) = absurd (m p)
completed_once file _ _ (without_eoi l k p) (with_eoi q) = absurd (l q)
completed_once file _ _ (without_eoi l k p) (within_eoi n q) = absurd (k q)
completed_once file _ _ (without_eoi l k p) (without_eoi n m q) = refl
completed_once file _ _ (without_eoi l k p) (elsewhere n m q) = absurd (q p)
completed_once file _ _ (elsewhere l k p) (with_eoi q) = absurd (l q)
completed_once file _ _ (elsewhere l k p) (within_eoi n q) = absurd (k q)
completed_once file _ _ (elsewhere l k p) (without_eoi n m q) = absurd (p q)
completed_once file _ _ (elsewhere l k p) (elsewhere n m q) = refl

-- what is answered not to be so is not
pub not_so : (answer : Bool) (P : Type 0) → (IsTrue answer ↔ P) → answer ≡ false → P → ⊥
not_so answer P a is p = let so = a.1 p in absurd cc
