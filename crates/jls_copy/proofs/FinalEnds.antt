-- A course whose end is final stays where more bytes follow.
use Rattle.std.proofs.Common.{◌≡◌, ℕ, ◌+◌, ◌/◌, ◌%◌, ◌<◌, true, List, [], ◌∷◌, ◌++◌, length, sym, ap, ◌∙◌, subst, append_assoc, arith}
use Rattle.std.proofs.Common.{length-append}
use Rattle.jls_marker.specs.HeaderState.{HeaderState, no_headers_under}
use Rattle.jls_copy.specs.ScanData.{fill_bytes}
use Rattle.jls_copy.specs.Course.{LastClosed, by_input, by_marker, CopyUnit, segment, scan, segment_unit_bytes, unit_bytes, IsClosing}
use Rattle.jls_copy.specs.Course.{IsUnit, EndsHere, at_eoi, at_eoi_before_a_frame, at_no_marker, at_unknown_code, at_short_length}
use Rattle.jls_copy.specs.Course.{at_refused_segment, Ends, for_good, with_the_input, in_a_unit, AreUnits, without_units_under, Course}
use Rattle.jls_copy.specs.Course.{IsCourseUnder}
use Rattle.jls_copy.specs.Course.{with_soi, with_another_marker, with_no_marker, with_fill_alone}
use Rattle.jls_copy.specs.CopyReads.{is_final_end}
use Rattle.jls_copy.specs.declared.end.End.{End}
use Rattle.jls_copy.specs.declared.end.End.TheVariants.{Eoi, Header}
use Rattle.jls_marker.specs.declared.fault.MarkerFault.TheVariants as fault
use Rattle.jls_marker.specs.declared.profile.Profile.{Profile}

-- something stands in these lists
some_after : (xs : List ℕ) (y : ℕ) (ys : List ℕ) → 0 < length (xs ++ y ∷ ys)
some_after xs y ys = let e = length-append xs (y ∷ ys) in omega arith

some_segment : (n code : ℕ) (payload more : List ℕ) → 0 < length (segment_unit_bytes n code payload ++ more)
some_segment n code payload more =
    let e = length-append (segment_unit_bytes n code payload) more in
    let s = some_after (fill_bytes n) 255 (code ∷ (length payload + 2) / 256 ∷ (length payload + 2) % 256 ∷ payload) in omega arith

-- what ends the units at a marker is not empty
stops_some : (h : HeaderState) (at : ℕ) (x : List ℕ) (e : End) → EndsHere h at x e → 0 < length x
stops_some _ _ _ _ (at_eoi h at n after p) = some_after (fill_bytes n) 255 (217 ∷ after)
stops_some _ _ _ _ (at_eoi_before_a_frame h at n after p) = some_after (fill_bytes n) 255 (217 ∷ after)
stops_some _ _ _ _ (at_no_marker h at b after p) = omega arith
stops_some _ _ _ _ (at_unknown_code h at n code after p q r) = some_after (fill_bytes n) 255 (code ∷ after)
stops_some _ _ _ _ (at_short_length h at n code a b after p q) = some_after (fill_bytes n) 255 (code ∷ a ∷ b ∷ after)
stops_some _ _ _ _ (at_refused_segment h at n code payload after f p r) = some_segment n code payload after

-- what ends a copy for good does so whatever follows
stops_more : (h : HeaderState) (at : ℕ) (x more : List ℕ) (e : End) → EndsHere h at x e → EndsHere h at (x ++ more) e
stops_more _ _ _ more _ (at_eoi h at n after p) =
    subst (λ y. EndsHere h at y (Eoi (at + n))) (sym (append_assoc (fill_bytes n) (255 ∷ 217 ∷ after) more))
    (at_eoi h at n (after ++ more) p)
stops_more _ _ _ more _ (at_eoi_before_a_frame h at n after p) =
    subst (λ y. EndsHere h at y (Header fault.NoFrame (at + n))) (sym (append_assoc (fill_bytes n) (255 ∷ 217 ∷ after) more))
    (at_eoi_before_a_frame h at n (after ++ more) p)
stops_more _ _ _ more _ (at_no_marker h at b after p) = at_no_marker h at b (after ++ more) p
stops_more _ _ _ more _ (at_unknown_code h at n code after p q r) =
    subst (λ y. EndsHere h at y (Header fault.UnknownMarker (at + n))) (sym (append_assoc (fill_bytes n) (255 ∷ code ∷ after) more))
    (at_unknown_code h at n code (after ++ more) p q r)
stops_more _ _ _ more _ (at_short_length h at n code a b after p q) =
    subst (λ y. EndsHere h at y (Header fault.Length (at + n))) (sym (append_assoc (fill_bytes n) (255 ∷ code ∷ a ∷ b ∷ after) more))
    (at_short_length h at n code a b (after ++ more) p q)
stops_more _ _ _ more _ (at_refused_segment h at n code payload after f p r) =
    subst (λ y. EndsHere h at y (Header f (at + n))) (sym (append_assoc (segment_unit_bytes n code payload) after more))
    (at_refused_segment h at n code payload (after ++ more) f p r)

-- bytes that something stands in, and that end a copy for good
record Stays (P : List ℕ → Type 0) (x more : List ℕ) : Type 0 where
  some : 0 < length x
  there : P (x ++ more)

-- a final end stays with more bytes after it
ends_stay : (h : HeaderState) (at : ℕ) (x more : List ℕ) (e : End) → is_final_end e ≡ true → Ends h at x e
    → Stays (λ y. Ends h at y e) x more
ends_stay _ _ _ more _ final (for_good h at x e s) =
    record { some = stops_some h at x e s; there = for_good h at (x ++ more) e (stops_more h at x more e s) }
ends_stay _ _ _ more _ final (with_the_input h at) = absurd cc
ends_stay _ _ _ more _ final (in_a_unit h at x p) = absurd cc

-- what closes the last piece does so with more bytes after it
closing_stays : (closing : LastClosed) (rest more : List ℕ) → 0 < length rest → IsClosing closing rest → IsClosing closing (rest ++ more)
closing_stays (by_input n) rest more some e = absurd (let l = ap length e in omega arith)
closing_stays by_marker rest more some b = record {
  fill = b.fill;
  code = b.code;
  following = b.following ++ more;
  bytes_are = ap (λ y. y ++ more) b.bytes_are ∙ append_assoc (fill_bytes b.fill) (255 ∷ b.code ∷ b.following) more;
  ends = b.ends;
}

-- a unit stays one with more bytes after what follows it
unit_stays : (before : HeaderState) (u : CopyUnit) (after : HeaderState) (rest more : List ℕ) → 0 < length rest → IsUnit before u after rest
    → IsUnit before u after (rest ++ more)
unit_stays before (segment fill code payload) after rest more some u = u
unit_stays before (scan fill code payload plan closed last closing) after rest more some (known, taken, each, piece, following) =
    (known, taken, each, piece, closing_stays closing rest more some following)

-- the units before a final end are those of the copy with more bytes after it too
units_stay : (h : HeaderState) (at : ℕ) (x : List ℕ) (us : List CopyUnit) (final : HeaderState) (e : End) (more : List ℕ)
    → is_final_end e ≡ true
    → AreUnits h at x us final e → Stays (λ y. AreUnits h at y us final e) x more
units_stay h at x [] final e more is u = let s = ends_stay h at x more e is u.1 in record { some = s.some; there = (u.0, s.there) }
units_stay h at x (u ∷ us) final e more is (after, rest, whole, unit, next) =
    let s = units_stay after (at + length (unit_bytes u)) rest us final e more is next in
    record {
      some = (let l = ap length whole in let a = length-append (unit_bytes u) rest in let b = s.some in omega arith);
      there = (
        after,
        rest ++ more,
        ap (λ y. y ++ more) whole ∙ append_assoc (unit_bytes u) rest more,
        unit_stays h u after rest more s.some unit,
        s.there,
      );
    }

-- the course of a copy with a final end is that of the copy with more bytes after it too
pub final_ends_stay : {profile : Profile} (prefix more : List ℕ) (c : Course) → IsCourseUnder profile prefix c
    → is_final_end c.end ≡ true → IsCourseUnder profile (prefix ++ more) c
final_ends_stay {profile} _ more _ (with_soi n bytes units l e h) final =
    subst (λ y. IsCourseUnder profile y (record { begin = n + 2; units = units; headers = l; end = e }))
    (sym (append_assoc (fill_bytes n) (255 ∷ 216 ∷ bytes) more))
    (with_soi n (bytes ++ more) units l e (units_stay (no_headers_under profile) (n + 2) bytes units l e more final h).there)
final_ends_stay {profile} _ more _ (with_another_marker n code bytes p q) final =
    subst (λ y. IsCourseUnder profile y (without_units_under profile n (Header fault.NoSoi n))) (sym (append_assoc (fill_bytes n)
    (255 ∷ code ∷ bytes) more))
    (with_another_marker n code (bytes ++ more) p q)
final_ends_stay _ more _ (with_no_marker b bytes p) final = with_no_marker b (bytes ++ more) p
final_ends_stay _ more _ (with_fill_alone n) final = absurd cc
