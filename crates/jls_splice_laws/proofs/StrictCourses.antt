-- What is read of a file under the strict profile is read of it under the wide profile too, unless the fault of a scan's interleaving ends
-- it.
use Rattle.std.proofs.Common.{◌≡◌, ℕ, ◌+◌, List, [], ◌∷◌, length, Option, None, Some, Ok, ap, ◌∙◌, subst, refl}
use Rattle.jls_marker.specs.HeaderState.{HeaderState, no_headers}
use Rattle.jls_marker.specs.Headers.{headers_after}
use Rattle.jls_marker.specs.ProfileLaws.{under}
use Rattle.jls_marker.specs.Scan.{Scan}
use Rattle.jls_marker.specs.declared.profile.Profile.TheVariants.{Strict, Wide}
use Rattle.jls_marker.proofs.ProfileSteps.{wide_headers_take_alike}
use Rattle.jls_copy.specs.Course.{AreUnits, Course, CopyUnit, Ends, EndsHere, IsCourse, IsCourseUnder, IsUnit, segment, scan, unit_bytes}
use Rattle.jls_copy.specs.Course.{at_eoi, at_eoi_before_a_frame, at_no_marker, at_unknown_code, at_short_length, at_refused_segment}
use Rattle.jls_copy.specs.Course.{for_good, with_the_input, in_a_unit}
use Rattle.jls_copy.specs.Course.{with_soi, with_another_marker, with_no_marker, with_fill_alone}
use Rattle.jls_copy.specs.CopyReads.{CopyReads, CopyReadsUnder}
use Rattle.jls_copy.specs.ReadCopy.{ReadCopy}
use Rattle.jls_copy.specs.declared.end.End.{End}
use Rattle.jls_copy.specs.declared.end.End.TheVariants.{Eoi, Input, Header}
use Rattle.jls_marker.specs.declared.fault.MarkerFault.{MarkerFault}
use Rattle.jls_marker.specs.declared.fault.MarkerFault.TheVariants as fault
use Rattle.jls_search.specs.Faultless.{EndsWell}
use Rattle.jls_copy_laws.proofs.CopyScans.{unit_keeps_profile}
use Rattle.jls_splice_laws.proofs.StrictRefusals.{refused_alike}

-- The end ----------------------------------------------------------------------------------------------------------

-- an end that is no fault of a scan's interleaving
abbrev pub IsEndAlike : End → Type 0
IsEndAlike e = (offset : ℕ) → e ≡ Header fault.Interleave offset → ⊥

pub well_ended : (e : End) → EndsWell e → IsEndAlike e
well_ended (Eoi at) well offset is = absurd cc
well_ended (Input at) well offset is = absurd cc
well_ended (Header f at) well offset is = absurd well

end_here : (h : HeaderState) (at : ℕ) (bytes : List ℕ) (e : End) → h.profile ≡ Strict → IsEndAlike e → EndsHere h at bytes e
    → EndsHere (under Wide h) at bytes e
end_here _ _ _ _ strict alike (at_eoi h at n more framed) = at_eoi (under Wide h) at n more framed
end_here _ _ _ _ strict alike (at_eoi_before_a_frame h at n more none) = at_eoi_before_a_frame (under Wide h) at n more none
end_here _ _ _ _ strict alike (at_no_marker h at b more other) = at_no_marker (under Wide h) at b more other
end_here _ _ _ _ strict alike (at_unknown_code h at n code more p q r) = at_unknown_code (under Wide h) at n code more p q r
end_here _ _ _ _ strict alike (at_short_length h at n code high low more p q) = at_short_length (under Wide h) at n code high low more p q
end_here _ _ _ _ strict alike (at_refused_segment h at n code payload more f p q) =
    at_refused_segment (under Wide h) at n code payload more f p
    (refused_alike h code payload f (λ (is : f ≡ fault.Interleave). alike (at + n) (ap (λ (x : MarkerFault). Header x (at + n)) is)) strict q)

end_of : (h : HeaderState) (at : ℕ) (bytes : List ℕ) (e : End) → h.profile ≡ Strict → IsEndAlike e → Ends h at bytes e
    → Ends (under Wide h) at bytes e
end_of _ _ _ _ strict alike (for_good h at bytes e here) = for_good (under Wide h) at bytes e (end_here h at bytes e strict alike here)
end_of _ _ _ _ strict alike (with_the_input h at) = with_the_input (under Wide h) at
end_of _ _ _ _ strict alike (in_a_unit h at bytes part) = in_a_unit (under Wide h) at bytes part

-- Units ------------------------------------------------------------------------------------------------------------

-- what strict headers take, they take under the wide profile
taken_wide : (h after : HeaderState) (code : ℕ) (payload : List ℕ) (s : Option Scan) → h.profile ≡ Strict
    → headers_after h code payload ≡ Ok (after, s) → headers_after (under Wide h) code payload ≡ Ok (under Wide after, s)
taken_wide h after code payload s strict taken =
    let same : h ≡ under Strict h = λ i. record h { profile = strict i } in
    wide_headers_take_alike h after code payload s
    (subst (λ (x : HeaderState). headers_after x code payload ≡ Ok (after, s)) same taken)

pub unit_of : (h : HeaderState) (u : CopyUnit) (after : HeaderState) (rest : List ℕ) → h.profile ≡ Strict → IsUnit h u after rest
    → IsUnit (under Wide h) u (under Wide after) rest
unit_of h (segment fill code payload) after rest strict (whole, taken) = (whole, taken_wide h after code payload None strict taken)
unit_of h (scan fill code payload plan closed last closing) after rest strict (whole, taken, each, piece, following) =
    (whole, taken_wide h after code payload (Some plan) strict taken, each, piece, following)

units_of : (h : HeaderState) (at : ℕ) (bytes : List ℕ) (units : List CopyUnit) (final : HeaderState) (e : End) → h.profile ≡ Strict
    → IsEndAlike e → AreUnits h at bytes units final e → AreUnits (under Wide h) at bytes units (under Wide final) e
units_of h at bytes [] final e strict alike (same, ends) = (ap (under Wide) same, end_of h at bytes e strict alike ends)
units_of h at bytes (u ∷ units) final e strict alike (after, rest, is, unit, more) = (
  under Wide after,
  rest,
  is,
  unit_of h u after rest strict unit,
  units_of after (at + length (unit_bytes u)) rest units final e (unit_keeps_profile h u after rest unit ∙ strict) alike more,
)

-- The course -------------------------------------------------------------------------------------------------------

-- the same course, with the wide profile in its headers
abbrev pub wide : Course → Course
wide c = record c { headers = under Wide c.headers }

pub wide_course_of : (bytes : List ℕ) (c : Course) → IsCourse bytes c → IsEndAlike c.end → IsCourseUnder Wide bytes (wide c)
wide_course_of _ _ (with_soi n bytes units final e are) alike =
    with_soi n bytes units (under Wide final) e (units_of no_headers (n + 2) bytes units final e refl alike are)
wide_course_of _ _ (with_another_marker n code bytes p q) alike = with_another_marker n code bytes p q
wide_course_of _ _ (with_no_marker b bytes p) alike = with_no_marker b bytes p
wide_course_of _ _ (with_fill_alone n) alike = with_fill_alone n

pub wide_course : (bytes : List ℕ) (c : Course) → IsCourse bytes c → EndsWell c.end → IsCourseUnder Wide bytes (wide c)
wide_course bytes c is well = wide_course_of bytes c is (well_ended c.end well)

pub wide_reading : (copy : List ℕ) (read : ReadCopy) → CopyReads copy read → EndsWell read.ended → CopyReadsUnder Wide copy read
wide_reading copy read r well = record {
  course = wide r.course;
  is_course = wide_course copy r.course r.is_course (subst EndsWell r.ended_is well);
  shape = r.shape;
  framed = r.framed;
  outcomes = r.outcomes;
  each = r.each;
  head = r.head;
  head_is = r.head_is;
  partial_is = r.partial_is;
  pieces_are = r.pieces_are;
  count_is = r.count_is;
  ended_is = r.ended_is;
}
