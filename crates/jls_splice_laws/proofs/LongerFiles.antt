-- Courses that end with the input, completed by EOI.
use Rattle.std.proofs.Common.{◌≡◌, ℕ, zero, suc, ◌+◌, true, false, List, [], ◌∷◌, ◌++◌, length, refl, sym, ap, ◌∙◌, subst, inl, inr}
use Rattle.std.proofs.Common.{arith, ◌⊎◌}
use Rattle.std.specs.Prelude.{is_some}
use Rattle.std.specs.List.{flat_map}
use Rattle.std.proofs.lemmas.List.{append_assoc, append-nil}
use Rattle.jls_marker.specs.HeaderState.{HeaderState, no_headers_under}
use Rattle.jls_marker.specs.declared.profile.Profile.TheVariants.{Wide}
use Rattle.jls_marker.specs.declared.fault.MarkerFault.TheVariants as fault
use Rattle.std.specs.Prelude.{if◌then◌else◌}
use Rattle.jls_marker.specs.Scan.{Scan}
use Rattle.jls_copy.specs.ScanData.{ClosedPiece, closed_bytes, fill_bytes, IsPiece}
use Rattle.jls_copy.specs.Course.{AreUnits, BeginsWithEnd, Course, CopyUnit, Ends, EndsHere, IsCourseUnder, IsUnit, by_input}
use Rattle.jls_copy.specs.Course.{by_marker, scan, segment}
use Rattle.jls_copy.specs.Course.{segment_unit_bytes, unit_bytes}
use Rattle.jls_copy.specs.Course.{at_eoi, at_eoi_before_a_frame, at_no_marker, at_unknown_code, at_short_length, at_refused_segment}
use Rattle.jls_copy.specs.Course.{for_good, with_the_input, in_a_unit}
use Rattle.jls_copy.specs.Course.{with_soi, with_another_marker, with_no_marker, with_fill_alone}
use Rattle.jls_copy.specs.Pieces.{FoundPiece, pieces, pieces_in, scans_in, unit_pieces}
use Rattle.jls_copy.specs.CutPieces.{closed_by_input, cut_pieces, last_piece}
use Rattle.jls_copy.specs.CourseLaws.{OneCourseUnder}
use Rattle.jls_carry_laws.proofs.UnitsWalk.{unit_not_empty}
use Rattle.jls_splice_run.specs.Completing.{IsCompleted, with_eoi, within_eoi, without_eoi, elsewhere}
use Rattle.jls_copy.specs.declared.end.End.{End}
use Rattle.jls_copy.specs.declared.end.End.TheVariants.{Eoi, Input, Header}

abbrev second : List ℕ
second = 0xD9 ∷ []

abbrev both : List ℕ
both = 0xFF ∷ 0xD9 ∷ []

-- units that end at EOI, with the pieces of others
record EndAtEoi (h : HeaderState) (at : ℕ) (bytes : List ℕ) (units : List CopyUnit) (final : HeaderState) : Type 0 where
  ended : List CopyUnit
  offset : ℕ
  are : AreUnits h at bytes ended final (Eoi offset)
  same : (index : ℕ) → pieces_in index at ended ≡ pieces_in index at units
  uncut : closed_by_input ended ≡ false

-- units that do not
record EndElsewhere (h : HeaderState) (at : ℕ) (bytes : List ℕ) : Type 0 where
  ended : List CopyUnit
  final : HeaderState
  end : End
  are : AreUnits h at bytes ended final end
  other : (offset : ℕ) → end ≡ Eoi offset → ⊥

not_here : (h : HeaderState) (at : ℕ) (bytes : List ℕ) (e : End) (i : ℕ) → EndsHere h at bytes e → e ≡ Input i → ⊥
not_here _ _ _ _ i (at_eoi h at n more framed) same = absurd cc
not_here _ _ _ _ i (at_eoi_before_a_frame h at n more none) same = absurd cc
not_here _ _ _ _ i (at_no_marker h at b more other) same = absurd cc
not_here _ _ _ _ i (at_unknown_code h at n code more p q r) same = absurd cc
not_here _ _ _ _ i (at_short_length h at n code high low more p q) same = absurd cc
not_here _ _ _ _ i (at_refused_segment h at n code payload more f p q) same = absurd cc

-- no byte is left where the input ends at the place of a marker
nothing_left : (h : HeaderState) (at : ℕ) (bytes : List ℕ) (e : End) (i : ℕ) → Ends h at bytes e → e ≡ Input i → bytes ≡ []
nothing_left _ _ _ _ i (for_good h at bytes e here) same = absurd (not_here h at bytes e i here same)
nothing_left _ _ _ _ i (with_the_input h at) same = refl
nothing_left _ _ _ _ i (in_a_unit h at bytes part) same = absurd cc

-- the last of these bytes is that of a marker
fill_then : (n : ℕ) → fill_bytes (suc n) ++ second ≡ fill_bytes n ++ both
fill_then zero = refl
fill_then (suc n) = ap (λ (z : List ℕ). 0xFF ∷ z) (fill_then n)

longer_piece : (last : List ℕ) → IsPiece last → IsPiece (last ++ second)
longer_piece [] p = λ e. absurd (omega (arith, e))
longer_piece (b ∷ []) p = (λ e. absurd (p e), λ e. absurd (omega (arith, e)))
longer_piece (b ∷ c ∷ more) p = (p.0, longer_piece (c ∷ more) p.1)

begins_longer : (rest more : List ℕ) → BeginsWithEnd rest → BeginsWithEnd (rest ++ more)
begins_longer rest more b = record {
  fill = b.fill;
  code = b.code;
  following = b.following ++ more;
  bytes_are = ap (λ (z : List ℕ). z ++ more) b.bytes_are ∙ append_assoc (fill_bytes b.fill) (0xFF ∷ b.code ∷ b.following) more;
  ends = b.ends;
}

-- a unit that isn't the input's stays where more bytes follow
uncut_more : (u : CopyUnit) (us : List CopyUnit) → closed_by_input (u ∷ []) ≡ false → closed_by_input us ≡ false
    → closed_by_input (u ∷ us) ≡ false
uncut_more u [] this those = this
uncut_more u (v ∷ us) this those = those

module _ (h after final : HeaderState) (at : ℕ) (bytes rest more : List ℕ) (u : CopyUnit) (us : List CopyUnit)
    (is : bytes ≡ unit_bytes u ++ rest) where
  go_on : IsUnit h u after (rest ++ more) → closed_by_input (u ∷ []) ≡ false
      → EndAtEoi after (at + length (unit_bytes u)) (rest ++ more) us final → EndAtEoi h at (bytes ++ more) (u ∷ us) final
  go_on unit this l = record {
    ended = u ∷ l.ended;
    offset = l.offset;
    are = (after, rest ++ more, ap (λ (z : List ℕ). z ++ more) is ∙ append_assoc (unit_bytes u) rest more, unit, l.are);
    same = λ index. ap (λ (z : List FoundPiece). unit_pieces index at u ++ z) (l.same (index + scans_in u));
    uncut = uncut_more u l.ended this l.uncut;
  }

  go_elsewhere : IsUnit h u after (rest ++ more)
      → EndElsewhere after (at + length (unit_bytes u)) (rest ++ more) → EndElsewhere h at (bytes ++ more)
  go_elsewhere unit l = record {
    ended = u ∷ l.ended;
    final = l.final;
    end = l.end;
    are = (after, rest ++ more, ap (λ (z : List ℕ). z ++ more) is ∙ append_assoc (unit_bytes u) rest more, unit, l.are);
    other = l.other;
  }

-- the bytes of scan data that the input's end closes, and of what follows
cut_so : (seg flat last rest more : List ℕ) → (seg ++ (flat ++ (last ++ rest))) ++ more ≡ (seg ++ (flat ++ (last ++ []))) ++ (rest ++ more)
cut_so seg flat last rest more =
    append_assoc seg (flat ++ (last ++ rest)) more
    ∙ ap (λ (z : List ℕ). seg ++ z) (append_assoc flat (last ++ rest) more ∙ ap (λ (z : List ℕ). flat ++ z) (append_assoc last rest more))
    ∙ sym (append_assoc seg (flat ++ (last ++ [])) (rest ++ more)
    ∙ ap (λ (z : List ℕ). seg ++ z) (append_assoc flat (last ++ []) (rest ++ more)
    ∙ ap (λ (z : List ℕ). flat ++ z) (append_assoc last [] (rest ++ more))))

module _ (h after final : HeaderState) (at fill code count : ℕ) (bytes payload last rest : List ℕ) (plan : Scan) (closed : List ClosedPiece)
    (is : bytes ≡ unit_bytes (scan fill code payload plan closed last (by_input count)) ++ rest) (none : rest ≡ []) where
  abbrev cut_unit : CopyUnit
  cut_unit = scan fill code payload plan closed last (by_input count)

  abbrev seg : List ℕ
  seg = segment_unit_bytes fill code payload

  abbrev flat : List ℕ
  flat = flat_map closed_bytes closed

  bytes_so : (more : List ℕ) → bytes ++ more ≡ unit_bytes cut_unit ++ more
  bytes_so more = ap (λ (z : List ℕ). z ++ more) (is ∙ ap (λ (z : List ℕ). unit_bytes cut_unit ++ z) none ∙ append-nil (unit_bytes cut_unit))

  -- a marker closes the last piece in place of the input's end
  close : (more : List ℕ) (n : ℕ) → fill_bytes count ++ more ≡ fill_bytes n ++ both → IsUnit h cut_unit after rest → final ≡ after
      → is_some final.frame ≡ true → EndAtEoi h at (bytes ++ more) (cut_unit ∷ []) final
  close more n fills (whole, headers, each, piece, closing) same framed =
      let unit = scan fill code payload plan closed last by_marker in
      let place = at + length (unit_bytes unit) in
      let eq : bytes ++ more ≡ unit_bytes unit ++ (fill_bytes n ++ both) =
      bytes_so more ∙ cut_so seg flat last (fill_bytes count) more ∙ ap (λ (z : List ℕ). unit_bytes unit ++ z) fills in
      let begins : BeginsWithEnd (fill_bytes n ++ both) =
      record { fill = n; code = 0xD9; following = []; bytes_are = refl; ends = refl } in
      let taken : is_some after.frame ≡ true = subst (λ (s : HeaderState). is_some s.frame ≡ true) same framed in
      record {
        ended = unit ∷ [];
        offset = place + n;
        are = (
          after,
          fill_bytes n ++ both,
          eq,
          (whole, headers, each, piece, begins),
          (same, for_good after place (fill_bytes n ++ both) (Eoi (place + n)) (at_eoi after place n [] taken)),
        );
        same = λ index. refl;
        uncut = refl;
      }

-- one byte more of the last piece
module _ (h after : HeaderState) (at fill code : ℕ) (bytes payload last rest : List ℕ) (plan : Scan) (closed : List ClosedPiece)
    (is : bytes ≡ unit_bytes (scan fill code payload plan closed last (by_input 0)) ++ rest) (none : rest ≡ []) where
  lengthen : IsUnit h (scan fill code payload plan closed last (by_input 0)) after rest → EndElsewhere h at (bytes ++ second)
  lengthen (whole, headers, each, piece, closing) =
      let seg = segment_unit_bytes fill code payload in
      let flat = flat_map closed_bytes closed in
      let unit = scan fill code payload plan closed (last ++ second) (by_input 0) in
      let place = at + length (unit_bytes unit) in
      let eq : bytes ++ second ≡ unit_bytes unit ++ [] =
      bytes_so h after after at fill code 0 bytes payload last rest plan closed is none second
      ∙ append_assoc seg (flat ++ (last ++ [])) second
      ∙ ap (λ (z : List ℕ). seg ++ z) (append_assoc flat (last ++ []) second
      ∙ ap (λ (z : List ℕ). flat ++ z) (ap (λ (z : List ℕ). z ++ second) (append-nil last) ∙ sym (append-nil (last ++ second))))
      ∙ sym (append-nil (unit_bytes unit)) in
      record {
        ended = unit ∷ [];
        final = after;
        end = Input place;
        are = (after, [], eq, (whole, headers, each, longer_piece last piece, refl), (refl, with_the_input after place));
        other = λ o e. absurd cc;
      }

-- units that end with the input end at EOI, if both bytes of it follow
with_both : (h : HeaderState) (at : ℕ) (bytes : List ℕ) (units : List CopyUnit) (final : HeaderState) (i : ℕ)
    → AreUnits h at bytes units final (Input i) → is_some final.frame ≡ true → EndAtEoi h at (bytes ++ both) units final
with_both h at bytes [] final i (same, ends) framed =
    let none : bytes ≡ [] = nothing_left h at bytes (Input i) i ends refl in
    let taken : is_some h.frame ≡ true = subst (λ (s : HeaderState). is_some s.frame ≡ true) same framed in
    subst (λ (z : List ℕ). EndAtEoi h at (z ++ both) [] final) (sym none)
    (record {
      ended = [];
      offset = at + 0;
      are = (same, for_good h at both (Eoi (at + 0)) (at_eoi h at 0 [] taken));
      same = λ index. refl;
      uncut = refl;
    })
with_both h at bytes (segment fill code payload ∷ us) final i (after, rest, is, unit, more) framed =
    go_on h after final at bytes rest both (segment fill code payload) us is unit refl (with_both after _ rest us final i more framed)
with_both h at bytes (scan fill code payload plan closed last by_marker ∷ us) final i
    (after, rest, is, (whole, headers, each, piece, closing), more) framed =
    go_on h after final at bytes rest both (scan fill code payload plan closed last by_marker) us is
    (whole, headers, each, piece, begins_longer rest both closing) refl (with_both after _ rest us final i more framed)
with_both h at bytes (scan fill code payload plan closed last (by_input count) ∷ []) final i (after, rest, is, unit, (same, ends)) framed =
    close h after final at fill code count bytes payload last rest plan closed is unit.4 both count refl unit same framed
with_both h at bytes (scan fill code payload plan closed last (by_input count) ∷ v ∷ vs) final i
    (after, rest, is, (whole, headers, each, piece, closing), (later, more, at_v, unit_v, others)) framed =
    absurd (unit_not_empty v more (sym closing ∙ at_v))

-- and if the second alone follows, they do or end elsewhere
with_second : (h : HeaderState) (at : ℕ) (bytes : List ℕ) (units : List CopyUnit) (final : HeaderState) (i : ℕ)
    → AreUnits h at bytes units final (Input i) → is_some final.frame ≡ true
    → EndAtEoi h at (bytes ++ second) units final ⊎ EndElsewhere h at (bytes ++ second)
with_second h at bytes [] final i (same, ends) framed =
    let none : bytes ≡ [] = nothing_left h at bytes (Input i) i ends refl in
    inr (subst (λ (z : List ℕ). EndElsewhere h at (z ++ second)) (sym none)
    (record {
      ended = [];
      final = h;
      end = Header fault.NoMarker at;
      are = (refl, for_good h at second (Header fault.NoMarker at) (at_no_marker h at 0xD9 [] (λ e. absurd (omega (arith, e)))));
      other = λ o e. absurd cc;
    }))
with_second h at bytes (segment fill code payload ∷ us) final i (after, rest, is, unit, more) framed =
    elim (with_second after _ rest us final i more framed) [
      | inl l ↦ inl (go_on h after final at bytes rest second (segment fill code payload) us is unit refl l)
      | inr l ↦ inr (go_elsewhere h after final at bytes rest second (segment fill code payload) us is unit l)
    ]
with_second h at bytes (scan fill code payload plan closed last by_marker ∷ us) final i
    (after, rest, is, (whole, headers, each, piece, closing), more) framed =
    let u = scan fill code payload plan closed last by_marker in
    let unit : IsUnit h u after (rest ++ second) = (whole, headers, each, piece, begins_longer rest second closing) in
    elim (with_second after _ rest us final i more framed) [
      | inl l ↦ inl (go_on h after final at bytes rest second u us is unit refl l)
      | inr l ↦ inr (go_elsewhere h after final at bytes rest second u us is unit l)
    ]
with_second h at bytes (scan fill code payload plan closed last (by_input zero) ∷ []) final i (after, rest, is, unit, (same, ends)) framed =
    inr (lengthen h after at fill code bytes payload last rest plan closed is unit.4 unit)
with_second h at bytes (scan fill code payload plan closed last (by_input (suc n)) ∷ []) final i (after, rest, is, unit, (same, ends)) framed =
    inl (close h after final at fill code (suc n) bytes payload last rest plan closed is unit.4 second n (fill_then n) unit same framed)
with_second h at bytes (scan fill code payload plan closed last (by_input count) ∷ v ∷ vs) final i
    (after, rest, is, (whole, headers, each, piece, closing), (later, more, at_v, unit_v, others)) framed =
    absurd (unit_not_empty v more (sym closing ∙ at_v))

-- bytes have a course that ends at EOI, and is this one else
pub record EndsThen (c : Course) (whole : List ℕ) : Type 0 where
  pub course : Course
  pub is_course : IsCourseUnder Wide whole course
  pub offset : ℕ
  pub end_is : course.end ≡ Eoi offset
  pub headers_are : course.headers ≡ c.headers
  pub pieces_are : pieces course ≡ pieces c
  pub none_cut : cut_pieces course ≡ []

-- or one that does not
record EndsElse (whole : List ℕ) : Type 0 where
  course : Course
  is_course : IsCourseUnder Wide whole course
  other : (offset : ℕ) → course.end ≡ Eoi offset → ⊥

ended_course : (n : ℕ) (bytes more : List ℕ) (units : List CopyUnit) (final : HeaderState) (e : End)
    → EndAtEoi (no_headers_under Wide) (n + 2) (bytes ++ more) units final
    → EndsThen (record { begin = n + 2; units = units; headers = final; end = e }) ((fill_bytes n ++ (0xFF ∷ 0xD8 ∷ bytes)) ++ more)
ended_course n bytes more units final e l =
    let c : Course = record { begin = n + 2; units = units; headers = final; end = e } in
    let d : Course = record { begin = n + 2; units = l.ended; headers = final; end = Eoi l.offset } in
    subst (EndsThen c) (sym (append_assoc (fill_bytes n) (0xFF ∷ 0xD8 ∷ bytes) more))
    (record {
      course = d;
      is_course = with_soi n (bytes ++ more) l.ended final (Eoi l.offset) l.are;
      offset = l.offset;
      end_is = refl;
      headers_are = refl;
      pieces_are = l.same 0;
      none_cut = ap (λ b. if b then last_piece (pieces d) else []) l.uncut;
    })

course_with_both : (file : List ℕ) (c : Course) (i : ℕ) → IsCourseUnder Wide file c → c.end ≡ Input i → is_some c.headers.frame ≡ true
    → EndsThen c (file ++ both)
course_with_both _ _ i (with_soi n bytes units final e are) same framed =
    ended_course n bytes both units final e
    (with_both (no_headers_under Wide) (n + 2) bytes units final i
    (subst (λ (x : End). AreUnits (no_headers_under Wide) (n + 2) bytes units final x) same are) framed)
course_with_both _ _ i (with_another_marker n code bytes p q) same framed = absurd cc
course_with_both _ _ i (with_no_marker b bytes p) same framed = absurd cc
course_with_both _ _ i (with_fill_alone n) same framed = absurd cc

course_with_second : (file : List ℕ) (c : Course) (i : ℕ) → IsCourseUnder Wide file c → c.end ≡ Input i → is_some c.headers.frame ≡ true
    → EndsThen c (file ++ second) ⊎ EndsElse (file ++ second)
course_with_second _ _ i (with_soi n bytes units final e are) same framed =
    elim (with_second (no_headers_under Wide) (n + 2) bytes units final i
    (subst (λ (x : End). AreUnits (no_headers_under Wide) (n + 2) bytes units final x) same are) framed) [
      | inl l ↦ inl (ended_course n bytes second units final e l)
      | inr l ↦ inr (subst EndsElse (sym (append_assoc (fill_bytes n) (0xFF ∷ 0xD8 ∷ bytes) second))
          (record {
            course = record { begin = n + 2; units = l.ended; headers = l.final; end = l.end };
            is_course = with_soi n (bytes ++ second) l.ended l.final l.end l.are;
            other = l.other;
          }))
    ]
course_with_second _ _ i (with_another_marker n code bytes p q) same framed = absurd cc
course_with_second _ _ i (with_no_marker b bytes p) same framed = absurd cc
course_with_second _ _ i (with_fill_alone n) same framed = absurd cc

-- a file that ends with the input is completed so
pub ends_then : OneCourseUnder Wide → (file whole : List ℕ) (c : Course) (i : ℕ) → IsCourseUnder Wide file c → c.end ≡ Input i
    → is_some c.headers.frame ≡ true → IsCompleted file whole → EndsThen c whole
ends_then one file _ c i is end framed (with_eoi (d, at, o, e)) =
    let differ : Input i ≡ Eoi o = sym end ∙ ap (λ (x : Course). x.end) (one file c d is at) ∙ e in absurd cc
ends_then one file _ c i is end framed (within_eoi not_at (d, at, o, e)) =
    elim (course_with_second file c i is end framed) [
      | inl l ↦ l
      | inr l ↦ absurd (l.other o (ap (λ (x : Course). x.end) (one (file ++ second) l.course d l.is_course at) ∙ e))
    ]
ends_then one file _ c i is end framed (without_eoi not_at not_within at) = course_with_both file c i is end framed
ends_then one file _ c i is end framed (elsewhere not_at not_within never) =
    let l = course_with_both file c i is end framed in absurd (never (l.course, l.is_course, l.offset, l.end_is))
