-- A list of bytes has one course at most.
use Rattle.std.proofs.Common.{◌≡◌, ℕ, zero, suc, ◌+◌, ◌-◌, ◌*◌, ◌/◌, ◌%◌, ◌≢◌, true, false, List, [], ◌∷◌, ◌++◌, length, take, drop, Option}
use Rattle.std.proofs.Common.{Some, None, Result, Ok, Err, refl, sym, ◌∙◌, ap, subst, append_assoc, arith, ◌⊎◌, inl, inr, length-append}
use Rattle.std.specs.Prelude.{is_some, ◌==◌, nat_lt, if◌then◌else◌}
use Rattle.std.proofs.lemmas.List.{append-nil, length-replicate}
use Rattle.std.proofs.Math.Seq.{take-append_seam, drop-append_seam}
use Rattle.std.proofs.lemmas.Bool.{cases_eq}
use Rattle.std.proofs.lemmas.Bool.Decides.{nat_tests}
use Rattle.std.specs.List.{AllByRecursion}
use Rattle.jls_marker.specs.MarkerCodes.{has_segment}
use Rattle.jls_marker.specs.Headers.{headers_after}
use Rattle.jls_marker.specs.HeaderState.{HeaderState, no_headers_under}
use Rattle.jls_marker.specs.Scan.{Scan}
use Rattle.jls_marker.specs.declared.fault.MarkerFault.{MarkerFault}
use Rattle.jls_marker.specs.declared.fault.MarkerFault.TheVariants as fault
use Rattle.jls_copy.specs.ScanData.{fill_bytes, ClosedPiece, ScanEnd, at_input, at_marker, end_bytes, IsCut, IsClosedPiece, IsPiece}
use Rattle.jls_copy.specs.Course.{LastClosed, by_input, by_marker, CopyUnit, segment, scan, segment_unit_bytes, scan_data_bytes, unit_bytes}
use Rattle.jls_copy.specs.Course.{IsClosing, IsUnit, IsPartOfUnit, fill_alone, marker_alone, half_a_length, short_payload, EndsHere, at_eoi}
use Rattle.jls_copy.specs.Course.{at_eoi_before_a_frame, at_no_marker, at_unknown_code, at_short_length, at_refused_segment, Ends, for_good}
use Rattle.jls_copy.specs.Course.{with_the_input, in_a_unit, AreUnits, Course, without_units_under, IsCourseUnder, with_soi}
use Rattle.jls_copy.specs.Course.{with_another_marker}
use Rattle.jls_copy.specs.Course.{with_no_marker, with_fill_alone}
use Rattle.jls_copy.specs.declared.end.End.{End}
use Rattle.jls_copy.specs.declared.end.End.TheVariants.{Eoi, Input, Header}
use Rattle.jls_copy.proofs.OneCut.{same_cut}
use Rattle.jls_copy.proofs.OneMoreByte.{fills_more}
use Rattle.jls_marker.specs.declared.profile.Profile.{Profile}

-- What stands where a marker must, computed ------------------------------------------------------------------

data Found : Type 0 where
  nothing : Found
  no_ff : Found
  cut_off : Found
  marker : ℕ → ℕ → List ℕ → Found

abbrev code_after : ℕ → List ℕ → Found
code_after n [] = cut_off
code_after n (c ∷ more) = if c == 255 then code_after (n + 1) more else marker n c more

abbrev marker_at : List ℕ → Found
marker_at [] = nothing
marker_at (b ∷ more) = if b == 255 then code_after 0 more else no_ff

data Payload : Type 0 where
  missing : Payload
  too_short : Payload
  payload_is : List ℕ → List ℕ → Payload

abbrev payload_at : List ℕ → Payload
payload_at (a ∷ b ∷ more) =
    let n : ℕ = 256 * a + b in
    if nat_lt n 2 then too_short else if nat_lt (length more + 2) n then missing else payload_is (take (n - 2) more) (drop (n - 2) more)
payload_at _ = missing

-- the end, or a segment and what follows it, or an SOS and what follows it
data Step : Type 0 where
  ends : End → Step
  takes : ℕ → ℕ → List ℕ → HeaderState → List ℕ → Step
  starts : ℕ → ℕ → List ℕ → HeaderState → Scan → List ℕ → Step

abbrev after_taken : ℕ → ℕ → List ℕ → List ℕ → ℕ → Result (HeaderState × Option Scan) MarkerFault → Step
after_taken n code payload rest at (Err f) = ends (Header f (at + n))
after_taken n code payload rest at (Ok (h, None)) = takes n code payload h rest
after_taken n code payload rest at (Ok (h, Some s)) = starts n code payload h s rest

abbrev after_payload : HeaderState → ℕ → ℕ → ℕ → ℕ → Payload → Step
after_payload h n code at whole missing = ends (Header fault.Ended whole)
after_payload h n code at whole too_short = ends (Header fault.Length (at + n))
after_payload h n code at whole (payload_is payload rest) = after_taken n code payload rest at (headers_after h code payload)

abbrev after_marker : HeaderState → ℕ → ℕ → Found → Step
after_marker h at whole nothing = ends (Input whole)
after_marker h at whole no_ff = ends (Header fault.NoMarker at)
after_marker h at whole cut_off = ends (Header fault.Ended whole)
after_marker h at whole (marker n code more) =
    if code == 217 then ends (if is_some h.frame then Eoi (at + n) else Header fault.NoFrame (at + n))
    else if has_segment code then after_payload h n code at whole (payload_at more)
    else ends (Header fault.UnknownMarker (at + n))

-- fill bytes and a code
code_fills : (k n c : ℕ) (more : List ℕ) → c ≢ 255 → code_after k (fill_bytes n ++ (c ∷ more)) ≡ marker (k + n) c more
code_fills k zero c more ne = let f : (c == 255) ≡ false = grind (arith, nat_tests, ne) in let e : k + 0 ≡ k = omega arith in rw (f, e) refl
code_fills k (suc n) c more ne = code_fills (k + 1) n c more ne ∙ ap (λ m. marker m c more) (omega arith)

code_ends : (k n : ℕ) → code_after k (fill_bytes n) ≡ cut_off
code_ends k zero = refl
code_ends k (suc n) = code_ends (k + 1) n

found : (n c : ℕ) (more : List ℕ) → c ≢ 255 → marker_at (fill_bytes n ++ (255 ∷ c ∷ more)) ≡ marker n c more
found zero c more ne = code_fills 0 0 c more ne
found (suc n) c more ne = ap (code_after 0) (fills_more n (c ∷ more)) ∙ code_fills 0 (suc n) c more ne
    ∙ ap (λ m. marker m c more) (omega arith)

pub segment_not_fill : (c : ℕ) → has_segment c ≡ true → c ≢ 255
unfolding has_segment
segment_not_fill c s e = let f : has_segment 255 ≡ true = subst (λ x. has_segment x ≡ true) e s in cc

eoi_no_segment : has_segment 217 ≡ true → ⊥
unfolding has_segment
eoi_no_segment f = cc

-- EOI has no segment
segment_not_eoi : (c : ℕ) → has_segment c ≡ true → (c == 217) ≡ false
segment_not_eoi c s = elim (cases_eq c 217) [
  | inl e ↦ absurd (eoi_no_segment (subst (λ x. has_segment x ≡ true) e s))
  | inr e ↦ grind (arith, nat_tests, e)
]

-- the step at the marker of a segment is that of its length and payload
at_segment : (h : HeaderState) (at whole n code : ℕ) (more : List ℕ) → has_segment code ≡ true
    → after_marker h at whole (marker_at (fill_bytes n ++ (255 ∷ code ∷ more))) ≡ after_payload h n code at whole (payload_at more)
at_segment h at whole n code more s =
    let f = found n code more (segment_not_fill code s) in let g = segment_not_eoi code s in
    ap (after_marker h at whole) f ∙ rw (g, s) refl

-- the length and the payload of a segment are found by its bytes
taken_payload : (n : ℕ) (payload rest : List ℕ) → n ≡ length payload + 2
    → payload_at (n / 256 ∷ n % 256 ∷ payload ++ rest) ≡ payload_is payload rest
taken_payload n payload rest e =
    let back : 256 * (n / 256) + n % 256 ≡ n = omega arith in
    let two : nat_lt n 2 ≡ false = grind (arith, nat_tests, e) in
    let room : nat_lt (length (payload ++ rest) + 2) n ≡ false = grind (arith, nat_tests, e, length-append payload rest) in
    let size : n - 2 ≡ length payload = omega (arith, e) in
    let prefix : take (n - 2) (payload ++ rest) ≡ payload = rw size (take-append_seam payload rest) in
    let tail : drop (n - 2) (payload ++ rest) ≡ rest = rw size (drop-append_seam payload rest) in
    rw (back, two, room, prefix, tail) refl

-- a segment unit is read as the step of its segment
read_segment : (h : HeaderState) (at total n code : ℕ) (payload rest : List ℕ) → has_segment code ≡ true
    → after_marker h at total (marker_at (segment_unit_bytes n code payload ++ rest))
    ≡ after_taken n code payload rest at (headers_after h code payload)
read_segment h at total n code payload rest s =
    let size : ℕ = length payload + 2 in
    ap (λ t. after_marker h at total (marker_at t)) (append_assoc (fill_bytes n) (255 ∷ code ∷ size / 256 ∷ size % 256 ∷ payload) rest)
    ∙ at_segment h at total n code (size / 256 ∷ size % 256 ∷ payload ++ rest) s
    ∙ ap (after_payload h n code at total) (taken_payload (length payload + 2) payload rest refl)

abbrev step : HeaderState → ℕ → List ℕ → Step
step h at x = after_marker h at (at + length x) (marker_at x)

abbrev unit_step : CopyUnit → HeaderState → List ℕ → Step
unit_step (segment n code payload) after rest = takes n code payload after rest
unit_step (scan n code payload s closed last closing) after rest =
    starts n code payload after s (scan_data_bytes closed last closing ++ rest)

-- the step at bytes that begin with a unit is that of the unit
step_is : (h : HeaderState) (at : ℕ) (u : CopyUnit) (after : HeaderState) (rest x : List ℕ) → x ≡ unit_bytes u ++ rest
    → IsUnit h u after rest → step h at x ≡ unit_step u after rest
step_is h at (segment n code payload) after rest x e (known, t) =
    ap (λ y. after_marker h at (at + length x) (marker_at y)) e ∙ read_segment h at (at + length x) n code payload rest known.0
    ∙ ap (after_taken n code payload rest at) t
step_is h at (scan n code payload s closed last closing) after rest x e (known, t, each, piece, following) =
    let left = scan_data_bytes closed last closing ++ rest in
    ap (λ y. after_marker h at (at + length x) (marker_at y))
    (e ∙ append_assoc (segment_unit_bytes n code payload) (scan_data_bytes closed last closing) rest)
    ∙ read_segment h at (at + length x) n code payload left known.0 ∙ ap (after_taken n code payload left at) t

-- the step at what ends the units is that end
stops_step : (h : HeaderState) (at total : ℕ) (x : List ℕ) (e : End) → EndsHere h at x e → after_marker h at total (marker_at x) ≡ ends e
stops_step _ _ total _ _ (at_eoi h at n more p) = ap (after_marker h at total) (found n 217 more (λ z. omega (arith, z))) ∙ rw p refl
stops_step _ _ total _ _ (at_eoi_before_a_frame h at n more p) = ap (after_marker h at total) (found n 217 more (λ z. omega (arith, z)))
    ∙ rw p refl
stops_step _ _ total _ _ (at_no_marker h at b more p) = let f : (b == 255) ≡ false = grind (arith, nat_tests, p) in rw f refl
stops_step _ _ total _ _ (at_unknown_code h at n code more p q r) =
    let f : (code == 217) ≡ false = grind (arith, nat_tests, q) in ap (after_marker h at total) (found n code more p) ∙ rw (f, r) refl
stops_step _ _ total _ _ (at_short_length h at n code a b more p q) =
    let f : nat_lt (256 * a + b) 2 ≡ true = grind (arith, nat_tests, q) in at_segment h at total n code (a ∷ b ∷ more) p ∙ rw f refl
stops_step _ _ total _ _ (at_refused_segment h at n code payload more f p r) = read_segment h at total n code payload more p.0
    ∙ ap (after_taken n code payload more at) r

-- the step at a part of a unit is the end of the input
part_step : (h : HeaderState) (at total : ℕ) (x : List ℕ) → IsPartOfUnit x
    → after_marker h at total (marker_at x) ≡ ends (Header fault.Ended total)
part_step h at total _ (fill_alone n) = ap (after_marker h at total) (code_ends 0 n)
part_step h at total _ (marker_alone n code s) = at_segment h at total n code [] s
part_step h at total _ (half_a_length n code a s) = at_segment h at total n code (a ∷ []) s
part_step h at total _ (short_payload n code size bytes s short small) =
    let back : 256 * (size / 256) + size % 256 ≡ size = omega arith in
    let f : nat_lt size 2 ≡ false = grind (arith, nat_tests, short) in
    let g : nat_lt (length bytes + 2) size ≡ true = grind (arith, nat_tests, short) in
    at_segment h at total n code (size / 256 ∷ size % 256 ∷ bytes) s ∙ rw (back, f, g) refl

ends_step : (h : HeaderState) (at : ℕ) (x : List ℕ) (e : End) → Ends h at x e → step h at x ≡ ends e
ends_step _ _ _ _ (for_good h at x e s) = stops_step h at (at + length x) x e s
ends_step _ _ _ _ (with_the_input h at) = ap (λ n. ends (Input n)) (omega arith)
ends_step _ _ _ _ (in_a_unit h at x p) = part_step h at (at + length x) x p

-- The data of a scan, and what follows it --------------------------------------------------------------------

end_of : (closing : LastClosed) (rest : List ℕ) → IsClosing closing rest → ScanEnd
end_of (by_input count) rest e = at_input count
end_of by_marker rest b = at_marker b.fill b.code b.following

-- the pieces and marks of a unit, with what closes them, are the cut of its bytes
cut_is : (closed : List ClosedPiece) (last : List ℕ) (closing : LastClosed) (rest : List ℕ) → AllByRecursion IsClosedPiece closed
    → IsPiece last → (b : IsClosing closing rest)
    → IsCut (scan_data_bytes closed last closing ++ rest) (record { closed = closed; last = last; end = end_of closing rest b })
unfolding end_of
cut_is closed last (by_input count) rest each piece e = record { whole = rw e (append-nil _); each = each; last = piece; end = tt }
cut_is closed last by_marker rest each piece b =
    record { whole = rw b.bytes_are (simp (append_assoc, append-nil) refl); each = each; last = piece; end = b.ends }

-- two closings that end alike are one, with the same rest
closing_is : (d f : LastClosed) (r s : List ℕ) (b : IsClosing d r) (c : IsClosing f s) → end_of d r b ≡ end_of f s c → (d ≡ f) × (r ≡ s)
unfolding end_of
closing_is (by_input m) (by_input n) r s e g h = (cc, e ∙ sym g)
closing_is (by_input m) by_marker r s e c h = absurd cc
closing_is by_marker (by_input n) r s b g h = absurd cc
closing_is by_marker by_marker r s b c h = (refl, b.bytes_are ∙ ap end_bytes h ∙ sym c.bytes_are)

-- One unit --------------------------------------------------------------------------------------------------------

pub record Same (u v : CopyUnit) (a b : HeaderState) (r s : List ℕ) : Type 0 where
  pub units : u ≡ v
  pub headers : a ≡ b
  pub rests : r ≡ s

-- two units under the same headers that begin the same bytes are one, with the same headers after them and the same rest
same_unit : (h : HeaderState) (u v : CopyUnit) (a b : HeaderState) (r s : List ℕ) → IsUnit h u a r → IsUnit h v b s
    → unit_step u a r ≡ unit_step v b s → Same u v a b r s
same_unit h (segment n code payload) (segment m c q) a b r s p t e =
    record { units = cc; headers = cc; rests = cc }
same_unit h (segment n code payload) (scan m c q plan closed last closing) a b r s p t e = absurd cc
same_unit h (scan n code payload plan closed last closing) (segment m c q) a b r s p t e = absurd cc
same_unit h (scan n code payload plan closed last closing) (scan m c q plan' closed' last' closing') a b r s (k, t, each, piece, following)
    (k', t', each', piece', following') e =
    let left : scan_data_bytes closed last closing ++ r ≡ scan_data_bytes closed' last' closing' ++ s = cc in
    let cut = same_cut _ (record { closed = closed; last = last; end = end_of closing r following })
    (record { closed = closed'; last = last'; end = end_of closing' s following' })
    (cut_is closed last closing r each piece following)
    (subst (λ x. IsCut x (record { closed = closed'; last = last'; end = end_of closing' s following' })) (sym left)
    (cut_is closed' last' closing' s each' piece' following')) in
    let ends = closing_is closing closing' r s following following' (ap (λ x. x.end) cut) in
    let one : n ≡ m = cc in let two : code ≡ c = cc in let three : payload ≡ q = cc in let four : plan ≡ plan' = cc in
    let five : closed ≡ closed' = ap (λ x. x.closed) cut in let six : last ≡ last' = ap (λ x. x.last) cut in
    let seven : closing ≡ closing' = ends.0 in
    let heads : a ≡ b = cc in
    record { units = rw (one, two, three, four, five, six, seven) refl; headers = heads; rests = ends.1 }

end_no_unit : (d : End) (u : CopyUnit) (a : HeaderState) (r : List ℕ) → ends d ≡ unit_step u a r → ⊥
end_no_unit d (segment n code payload) a r e = cc
end_no_unit d (scan n code payload s closed last closing) a r e = cc

-- bytes begin with one unit at most
pub one_unit : (h : HeaderState) (x : List ℕ) (u v : CopyUnit) (a b : HeaderState) (r s : List ℕ) → x ≡ unit_bytes u ++ r → IsUnit h u a r
    → x ≡ unit_bytes v ++ s → IsUnit h v b s → Same u v a b r s
one_unit h x u v a b r s e is f is' = same_unit h u v a b r s is is' (sym (step_is h 0 u a r x e is) ∙ step_is h 0 v b s x f is')

-- where a copy ends, its bytes begin with no unit
pub no_unit_at_end : (h : HeaderState) (at : ℕ) (x : List ℕ) (d : End) (u : CopyUnit) (a : HeaderState) (r : List ℕ) → Ends h at x d
    → x ≡ unit_bytes u ++ r → IsUnit h u a r → ⊥
no_unit_at_end h at x d u a r ends_here e is = end_no_unit d u a r (sym (ends_step h at x d ends_here) ∙ step_is h at u a r x e is)

two_ends : (d e : End) → ends d ≡ ends e → d ≡ e
two_ends d e p = cc

record SameFrom (us vs : List CopyUnit) (l m : HeaderState) (d e : End) : Type 0 where
  units : us ≡ vs
  headers : l ≡ m
  end : d ≡ e

-- two lists of units with their ends that are the same bytes are one
one_from : (h : HeaderState) (at : ℕ) (x : List ℕ) (us vs : List CopyUnit) (l m : HeaderState) (d e : End) → AreUnits h at x us l d
    → AreUnits h at x vs m e → SameFrom us vs l m d e
one_from h at x [] [] l m d e p q =
    record { units = refl; headers = p.0 ∙ sym q.0; end = two_ends d e (sym (ends_step h at x d p.1) ∙ ends_step h at x e q.1) }
one_from h at x [] (v ∷ vs) l m d e p (b, s, g, t, q) =
    absurd (end_no_unit d v b s (sym (ends_step h at x d p.1) ∙ step_is h at v b s x g t))
one_from h at x (u ∷ us) [] l m d e (a, r, f, t, p) q =
    absurd (end_no_unit e u a r (sym (ends_step h at x e q.1) ∙ step_is h at u a r x f t))
one_from h at x (u ∷ us) (v ∷ vs) l m d e (a, r, f, t, p) (b, s, g, w, q) =
    let k = same_unit h u v a b r s t w (sym (step_is h at u a r x f t) ∙ step_is h at v b s x g w) in
    let i = one_from a (at + length (unit_bytes u)) r us vs l m d e p (rw (k.units, k.headers, k.rests) q) in
    record { units = ap (λ y. y ∷ us) k.units ∙ ap (λ ys. v ∷ ys) i.units; headers = i.headers; end = i.end }

-- The whole -------------------------------------------------------------------------------------------------------

abbrev After : Profile → Found → ℕ → Course → Type 0
After profile nothing total c = c ≡ without_units_under profile 0 (Header fault.Ended 0)
After profile no_ff total c = c ≡ without_units_under profile 0 (Header fault.NoSoi 0)
After profile cut_off total c = c ≡ without_units_under profile total (Header fault.Ended total)
After profile (marker n code more) total c =
    ((code ≡ 216) × (c.begin ≡ n + 2) × AreUnits (no_headers_under profile) (n + 2) more c.units c.headers c.end)
    ⊎ ((code ≢ 216) × (c ≡ without_units_under profile n (Header fault.NoSoi n)))

-- the first marker of some bytes, or that there is none, tells their course
following : (profile : Profile) (bytes : List ℕ) (c : Course) → IsCourseUnder profile bytes c
    → After profile (marker_at bytes) (length bytes) c
following profile _ _ (with_soi n bytes units l e h) = let f = found n 216 bytes (λ z. omega (arith, z)) in rw f (inl (refl, refl, h))
following profile _ _ (with_another_marker n code bytes p q) = let f = found n code bytes p in rw f (inr (q, refl))
following profile _ _ (with_no_marker b bytes p) = let f : (b == 255) ≡ false = grind (arith, nat_tests, p) in rw f refl
following profile _ _ (with_fill_alone zero) = refl
following profile _ _ (with_fill_alone (suc n)) =
    let e : length (fill_bytes (suc n)) ≡ suc n = length-replicate (suc n) 255 in let f = code_ends 0 n in
    rw (f, e) refl

course_eq : (c d : Course) → c.begin ≡ d.begin → c.units ≡ d.units → c.headers ≡ d.headers → c.end ≡ d.end → c ≡ d
course_eq c d e f g h =
    let x : c ≡ record { begin = d.begin; units = d.units; headers = d.headers; end = d.end } = rw (sym e, sym f, sym g, sym h) refl in x

-- two courses after the same start are one
same : (profile : Profile) (m : Found) (total : ℕ) (c d : Course) → After profile m total c → After profile m total d → c ≡ d
same profile nothing total c d p q = p ∙ sym q
same profile no_ff total c d p q = p ∙ sym q
same profile cut_off total c d p q = p ∙ sym q
same profile (marker n code more) total c d (inl p) (inl q) =
    let r = one_from (no_headers_under profile) (n + 2) more c.units d.units c.headers d.headers c.end d.end p.2 q.2 in
    course_eq c d (p.1 ∙ sym q.1) r.units r.headers r.end
same profile (marker n code more) total c d (inl p) (inr q) = absurd (q.0 p.0)
same profile (marker n code more) total c d (inr p) (inl q) = absurd (p.0 q.0)
same profile (marker n code more) total c d (inr p) (inr q) = p.1 ∙ sym q.1

pub one_course : {profile : Profile} (bytes : List ℕ) (c d : Course) → IsCourseUnder profile bytes c → IsCourseUnder profile bytes d → c ≡ d
one_course {profile} bytes c d p q =
    same profile (marker_at bytes) (length bytes) c d (following profile bytes c p) (following profile bytes d q)
