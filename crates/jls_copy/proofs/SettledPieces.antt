-- What begins before the piece in hand reads alike in each longer list of bytes.
use Rattle.std.proofs.Common.{◌≡◌, ℕ, ◌+◌, ◌*◌, ◌-◌, ◌<◌, ◌≤◌, Bool, true, false, List, [], ◌∷◌, ◌++◌, length, refl, sym, ◌∙◌, subst, arith}
use Rattle.std.proofs.Common.{◌⊎◌, inl, inr, Option, Some, None, Result, Ok, Err}
use Rattle.std.specs.Prelude.{if◌then◌else◌, is_some, nat_lt, ◌==◌, not}
use Rattle.std.specs.List.{AllByRecursion, Contains}
use Rattle.jls_values.proofs.Lists.{is_first, none_in, first_or_rest}
use Rattle.jls_marker.specs.HeaderState.{HeaderState}
use Rattle.jls_marker.specs.MarkerCodes.{has_segment}
use Rattle.jls_marker.specs.Headers.{headers_after}
use Rattle.jls_marker.specs.Scan.{Scan, intervals}
use Rattle.jls_marker.specs.declared.fault.MarkerFault.{MarkerFault}
use Rattle.jls_copy.specs.Course.{Course, IsCourseUnder}
use Rattle.jls_copy.specs.CutPieces.{cut_pieces}
use Rattle.jls_copy.specs.Numbers.{PieceNumber, Interval, BeyondLast, number_after}
use Rattle.jls_copy.specs.Pieces.{FoundPiece, Lines, pieces}
use Rattle.jls_copy.specs.Prefixes.{AgreeBefore, AreAlsoIn, HasLines, IsPastUnder, PlaceIsPast, PrefixesSettlePiecesUnder, ReadAlike}
use Rattle.jls_copy.specs.Reader.{all_pieces}
use Rattle.jls_copy.specs.ReaderState.{class_of, closed_at, closed_at_end, closed_by, found, from_marker, from_scan, from_start}
use Rattle.jls_copy.specs.ReaderState.{length_known, one_more, payload_grown, place_after, scan_after, scan_opened, scan_with}
use Rattle.jls_copy.specs.ReaderState.{segment_taken, with_segment}
use Rattle.jls_copy.specs.ReaderState.{StateWithPieces, reading, reading_from, reading_with, step_from}
use Rattle.jls_copy.specs.Tells.{AlikePiece, AlikePieces, FedAs}
use Rattle.jls_copy.specs.declared.scan.ByteClass.{ByteClass}
use Rattle.jls_copy.specs.declared.scan.ByteClass.TheVariants.{Fill, Mark, Stop, Data}
use Rattle.jls_copy.specs.declared.scan.OpenScan.{OpenScan}
use Rattle.jls_copy.specs.declared.place.CopyPosition.{CopyPosition}
use Rattle.jls_copy.specs.declared.place.CopyPosition.TheVariants.{Start, AtMarker, AtLength, InLength, InPayload, InScan, Done}
use Rattle.jls_copy.proofs.CopyFed.{outcome_alike}
use Rattle.jls_copy.proofs.CourseFed.{course_fed}
use Rattle.jls_copy.proofs.EndsOfCourse.{either, ends_after, framed_by_piece}
use Rattle.jls_copy.proofs.OneCourse.{one_course}
use Rattle.jls_copy.proofs.Prefixes.{alike_of, among_all, at_once, of_alike, Stands}
use Rattle.jls_copy.proofs.Prefixes.{stands_from}
use Rattle.jls_copy.proofs.FaultyPieces.{closed_stay}
use Rattle.jls_copy.proofs.ReadingTells.{reading_counts}
use Rattle.jls_copy.proofs.ScansOfCourse.{byte_parts}
use Rattle.jls_copy.proofs.Gathering.{from_append}
use Rattle.jls_marker.specs.declared.profile.Profile.{Profile}

-- What begins later ------------------------------------------------------------------------------------------------

-- no piece is open at a place where a marker may begin, or before SOI
no_open_start : (fill ff soi : Bool) (a b : CopyPosition) → closed_at_end a ≡ [] → closed_at_end b ≡ []
    → closed_at_end (if ff then Start true else if not fill then a else if soi then AtMarker false else b) ≡ []
no_open_start fill true soi a b e f = refl
no_open_start false false soi a b e f = e
no_open_start true false true a b e f = refl
no_open_start true false false a b e f = f

from_start_opens_none : (fill : Bool) (count b : ℕ) → closed_at_end (from_start fill count b) ≡ []
from_start_opens_none fill count b = no_open_start fill (b == 0xFF) (b == 0xD8) _ _ refl refl

module _ (a d e : CopyPosition) (ea : closed_at_end a ≡ []) (ed : closed_at_end d ≡ []) (ee : closed_at_end e ≡ []) (marker : CopyPosition)
    (em : closed_at_end marker ≡ []) where
  -- no place that a marker can lead to has a piece in hand
  no_open_marker : (fill ff eoi known : Bool)
      → closed_at_end (if ff then AtMarker true else if not fill then a else if eoi then d else if known then marker else e) ≡ []
  no_open_marker fill true eoi known = refl
  no_open_marker false false eoi known = ea
  no_open_marker true false true known = ed
  no_open_marker true false false true = em
  no_open_marker true false false false = ee

from_marker_opens_none : (fill has_frame : Bool) (count b : ℕ) → closed_at_end (from_marker fill has_frame count b) ≡ []
from_marker_opens_none fill has_frame count b = no_open_marker _ _ _ refl refl refl _ refl fill (b == 0xFF) (b == 0xD9) (has_segment b)

-- a piece that is open begins no earlier than that
abbrev OpensFrom : ℕ → CopyPosition → Type 0
OpensFrom at p = (q : FoundPiece) → Contains (closed_at_end p) q → at ≤ q.offset

none_open : (at : ℕ) (p : CopyPosition) → closed_at_end p ≡ [] → OpensFrom at p
none_open at p e q m = absurd (none_in q (subst (λ xs. Contains xs q) e m))

-- the piece of a scan is open from its offset on
one_open : (at : ℕ) (scan : OpenScan) → at ≤ scan.offset → OpensFrom at (InScan scan)
one_open at scan l q m =
    elim (first_or_rest q (found scan) [] m) [
      | inl e ↦ subst (λ (p : FoundPiece). at ≤ p.offset) e l
      | inr later ↦ absurd (none_in q later)
    ]

module _ (at count : ℕ) (low : at ≤ count) where
  opens_after : (index : ℕ) (s : Option Scan) → OpensFrom at (place_after index (count + 1) s)
  opens_after index None = λ q m. absurd (none_in q m)
  opens_after index (Some s) = one_open at (scan_opened index s (count + 1)) (omega (arith, low))

  opens_taken : (h : HeaderState) (payload : List ℕ) (marker : ℕ) (r : Result (HeaderState × Option Scan) MarkerFault)
      → OpensFrom at (segment_taken count h payload marker r).place
  opens_taken h payload marker (Err f) = λ q m. absurd (none_in q m)
  opens_taken h payload marker (Ok r) = opens_after h.scans r.1

  opens_with : (h : HeaderState) (payload : List ℕ) (marker code : ℕ) → OpensFrom at (with_segment count h payload marker code).place
  opens_with h payload marker code = opens_taken h payload marker (headers_after h code payload)

  -- a known length opens no piece before its offset
  opens_known : (h : HeaderState) (marker code size : ℕ) → OpensFrom at (length_known count h marker code size).place
  opens_known h marker code size = by (nat_lt size 2) refl (size == 2) refl
    where
      by : (short : Bool) → nat_lt size 2 ≡ short → (none : Bool) → (size == 2) ≡ none
          → OpensFrom at (length_known count h marker code size).place
      by true e none f = rw e (λ q m. absurd (none_in q m))
      by false e true f = rw (e, f) (opens_with h [] marker code)
      by false e false f = rw (e, f) (λ q m. absurd (none_in q m))

  -- a byte of a payload opens no piece before its offset
  opens_grown : (h : HeaderState) (payload : List ℕ) (marker code size : ℕ)
      → OpensFrom at (payload_grown count h payload marker code size).place
  opens_grown h payload marker code size = by (length payload + 2 == size) refl
    where
      by : (whole : Bool) → (length payload + 2 == size) ≡ whole → OpensFrom at (payload_grown count h payload marker code size).place
      by true e = rw e (opens_with h payload marker code)
      by false e = rw e (λ q m. absurd (none_in q m))

  -- a byte of scan data opens no piece before the offset
  opens_in_scan : (class : ByteClass) (scan : OpenScan) (b : ℕ) → at ≤ scan.offset → OpensFrom at (from_scan class scan count b)
  opens_in_scan Fill scan b l = one_open at (record scan { held = one_more scan.held }) l
  opens_in_scan Mark scan b l =
      one_open at (scan_after scan (number_after (intervals scan.plan) scan.last (b - 0xD0)) (count + 1)) (omega (arith, low))
  opens_in_scan Stop scan b l = none_open at (from_marker true true count b) (from_marker_opens_none true true count b)
  opens_in_scan Data scan b l = one_open at (scan_with scan b) l

  -- a byte more opens no piece before the offset
  opens_next : (p : CopyPosition) (h : HeaderState) (payload : List ℕ) (b : ℕ) → OpensFrom at p
      → OpensFrom at (step_from p count h payload b).place
  opens_next (Start fill) h payload b o = none_open at (from_start fill count b) (from_start_opens_none fill count b)
  opens_next (AtMarker fill) h payload b o =
      none_open at (from_marker fill (is_some h.frame) count b) (from_marker_opens_none fill (is_some h.frame) count b)
  opens_next (AtLength marker code) h payload b o = λ q m. absurd (none_in q m)
  opens_next (InLength marker code high) h payload b o = opens_known h marker code (256 * high + b)
  opens_next (InPayload marker code size) h payload b o = opens_grown h (payload ++ b ∷ []) marker code size
  opens_next (InScan scan) h payload b o = opens_in_scan (class_of scan.held b) scan b (o (found scan) (is_first (found scan) []))
  opens_next (Done e) h payload b o = λ q m. absurd (none_in q m)

-- a byte closes the piece in hand alone
closes_open : (class : ByteClass) (scan : OpenScan) (q : FoundPiece) → Contains (closed_by class scan) q → Contains (found scan ∷ []) q
closes_open Fill scan q m = absurd (none_in q m)
closes_open Mark scan q m = m
closes_open Stop scan q m = m
closes_open Data scan q m = absurd (none_in q m)

-- the piece that a byte closes is the one in hand
closes_in_hand : (p : CopyPosition) (b : ℕ) (q : FoundPiece) → Contains (closed_at p b) q → Contains (closed_at_end p) q
closes_in_hand (Start fill) b q m = m
closes_in_hand (AtMarker fill) b q m = m
closes_in_hand (AtLength marker code) b q m = m
closes_in_hand (InLength marker code high) b q m = m
closes_in_hand (InPayload marker code size) b q m = m
closes_in_hand (InScan scan) b q m = closes_open (class_of scan.held b) scan q m
closes_in_hand (Done e) b q m = m

-- each piece that was closed is one of those, or begins no earlier than that; nor does one that is open
record From (at : ℕ) (old : List FoundPiece) (r : StateWithPieces) : Type 0 where
  closed : (q : FoundPiece) → Contains r.pieces q → Contains old q ⊎ (at ≤ q.offset)
  opens : OpensFrom at r.state.place
  counted : at ≤ r.state.count

-- after one byte more, the pieces are the old ones and others from the offset on
from_with : (at : ℕ) (old : List FoundPiece) (r : StateWithPieces) (b : ℕ) → From at old r → From at old (reading_with r b)
from_with at old r b f = record {
  closed = λ q m. either (Contains old q ⊎ (at ≤ q.offset)) r.pieces (closed_at r.state.place b) q m (f.closed q)
      (λ n. inr (f.opens q (closes_in_hand r.state.place b q n)));
  opens = opens_next at r.state.count f.counted r.state.place r.state.headers r.state.payload b f.opens;
  counted = let l = f.counted in omega (arith, l);
}

from_on : (at : ℕ) (old : List FoundPiece) (r : StateWithPieces) (bytes : List ℕ) → From at old r → From at old (reading_from r bytes)
from_on at old r [] f = f
from_on at old r (b ∷ bytes) f = from_on at old (reading_with r b) bytes (from_with at old r b f)

-- Where it begins --------------------------------------------------------------------------------------------------

-- if the piece in hand begins at an offset or after it, the pieces before that offset are settled
pub past_fed : (profile : Profile) (offset : ℕ) (bytes : List ℕ) → AllByRecursion (λ b. b < 256) bytes → (p : CopyPosition)
    → p ≡ (reading profile bytes).state.place
    → PlaceIsPast offset p → IsPastUnder profile offset bytes
past_fed profile offset bytes low (Start fill) e h = absurd h
past_fed profile offset bytes low (AtMarker fill) e h = absurd h
past_fed profile offset bytes low (AtLength marker code) e h = absurd h
past_fed profile offset bytes low (InLength marker code high) e h = absurd h
past_fed profile offset bytes low (InPayload marker code size) e h = absurd h
past_fed profile offset bytes low (Done end) e h = absurd h
past_fed profile offset bytes low (InScan scan) e h =
    let t = course_fed profile bytes low in
    let cut : AlikePieces (found scan ∷ []) (cut_pieces t.0) = subst (λ p. AlikePieces (closed_at_end p) (cut_pieces t.0)) (sym e) t.5 in
    let q = alike_of (found scan ∷ []) (cut_pieces t.0) (found scan) cut (is_first (found scan) []) in
    record { course = t.0; is_course = t.1; piece = q.0; in_hand = q.1; past = subst (λ n. offset ≤ n) q.2.offset_is h }

-- one piece is open at most
opens_past : (at : ℕ) (p : CopyPosition) (x : FoundPiece) → Contains (closed_at_end p) x → at ≤ x.offset → OpensFrom at p
opens_past at (Start fill) x m l = absurd (none_in x m)
opens_past at (AtMarker fill) x m l = absurd (none_in x m)
opens_past at (AtLength marker code) x m l = absurd (none_in x m)
opens_past at (InLength marker code high) x m l = absurd (none_in x m)
opens_past at (InPayload marker code size) x m l = absurd (none_in x m)
opens_past at (Done end) x m l = absurd (none_in x m)
opens_past at (InScan scan) x m l =
    elim (first_or_rest x (found scan) [] m) [
      | inl e ↦ one_open at scan (subst (λ (p : FoundPiece). at ≤ p.offset) (sym e) l)
      | inr later ↦ absurd (none_in x later)
    ]

-- Alike ------------------------------------------------------------------------------------------------------------

fed_sym : (n : PieceNumber) (xs ys : List ℕ) → FedAs n xs ys → FedAs n ys xs
fed_sym (Interval k) xs ys (inl e) = inl (sym e)
fed_sym (Interval k) xs ys (inr e) = inr (e.1, e.0)
fed_sym (BeyondLast k) xs ys h = tt

-- a piece is alike to each that is alike to it
alike_back : (p q : FoundPiece) → AlikePiece p q → AlikePiece q p
alike_back p q a = record {
  scan_is = sym a.scan_is;
  plan_is = sym a.plan_is;
  number_is = sym a.number_is;
  offset_is = sym a.offset_is;
  fed_as = subst (λ n. FedAs n q.bytes p.bytes) (sym a.number_is) (fed_sym q.number p.bytes q.bytes a.fed_as);
}

lines_alike : (p q : FoundPiece) → AlikePiece p q → HasLines p → HasLines q
lines_alike p q a (lines, is) = (lines, outcome_alike p q (Lines lines) a is)

-- both are alike to one that was fed
read_alike : (x p q : FoundPiece) → AlikePiece x p → AlikePiece x q → ReadAlike p q
read_alike x p q a b = record {
  offset = sym a.offset_is ∙ b.offset_is;
  reads = (λ h. lines_alike x q b (lines_alike p x (alike_back x p a) h), λ h. lines_alike x p a (lines_alike q x (alike_back x q b) h));
}

-- The law ----------------------------------------------------------------------------------------------------------

module _ (profile : Profile) (at : ℕ) (prefix more : List ℕ) (low : AllByRecursion (λ b. b < 256) (prefix ++ more))
    (past : IsPastUnder profile at prefix) (c d : Course)
    (is_c : IsCourseUnder profile prefix c) (is_d : IsCourseUnder profile (prefix ++ more) d) where
  abbrev first : StateWithPieces
  first = reading profile prefix

  abbrev all : StateWithPieces
  all = reading profile (prefix ++ more)

  alike_first : AlikePieces (all_pieces first) (pieces c)
  alike_first =
      let t = course_fed profile prefix (byte_parts prefix more low).0 in
      subst (λ x. AlikePieces (all_pieces first) (pieces x)) (one_course prefix t.0 c t.1 is_c) t.4

  alike_cut : AlikePieces (closed_at_end first.state.place) (cut_pieces c)
  alike_cut =
      let t = course_fed profile prefix (byte_parts prefix more low).0 in
      subst (λ x. AlikePieces (closed_at_end first.state.place) (cut_pieces x)) (one_course prefix t.0 c t.1 is_c) t.5

  alike_all : AlikePieces (all_pieces all) (pieces d)
  alike_all =
      let t = course_fed profile (prefix ++ more) low in
      subst (λ x. AlikePieces (all_pieces all) (pieces x)) (one_course (prefix ++ more) t.0 d t.1 is_d) t.4

  -- the piece in hand
  hand : (x : FoundPiece) × Contains (closed_at_end first.state.place) x × (at ≤ x.offset)
  hand =
      let here : Contains (cut_pieces c) past.piece = subst (λ x. Contains (cut_pieces x) past.piece)
      (one_course prefix past.course c past.is_course is_c) past.in_hand in
      let x = of_alike (closed_at_end first.state.place) (cut_pieces c) past.piece alike_cut here in
      (x.0, x.1, subst (λ n. at ≤ n) (sym x.2.offset_is) past.past)

  -- it is a piece of the first course
  hand_first : (p : FoundPiece) × Contains (pieces c) p × (at ≤ p.offset)
  hand_first =
      let p = alike_of (all_pieces first) (pieces c) hand.0 alike_first (among_all first hand.0 (inr hand.1)) in
      (p.0, p.1, subst (λ n. at ≤ n) p.2.offset_is hand.2)

  -- the piece in hand goes on in the second course
  hand_second : (q : FoundPiece) × Contains (pieces d) q × (at ≤ q.offset)
  hand_second =
      let stood : Stands (reading_from first more) hand.0 = stands_from first more hand.0 (hand.0, inr hand.1, at_once hand.0) in
      let on : Stands all hand.0 = subst (λ r. Stands r hand.0) (sym (from_append _ prefix more)) stood in
      let q = alike_of (all_pieces all) (pieces d) on.0 alike_all (among_all all on.0 on.1) in
      (q.0, q.1, subst (λ n. at ≤ n) (sym on.2.offset ∙ q.2.offset_is) hand.2)

  from_first : From at first.pieces all
  from_first =
      let size : first.state.count ≡ length prefix = reading_counts profile prefix in
      let within = ends_after profile prefix c is_c hand_first.0 hand_first.1 in
      subst (From at first.pieces) (sym (from_append _ prefix more))
      (from_on at first.pieces first more (record {
        closed = λ q m. inl m;
        opens = opens_past at first.state.place hand.0 hand.1 hand.2;
        counted = let l = hand_first.2 in let w = within.0 in omega (arith, size, l, w);
      }))

  first_in_second : AreAlsoIn at c d
  first_in_second p m l =
      let x = of_alike (all_pieces first) (pieces c) p alike_first m in
      either ((q : FoundPiece) × Contains (pieces d) q × ReadAlike p q) first.pieces (closed_at_end first.state.place) x.0 x.1
      (λ closed.
      let later : Contains all.pieces x.0 = subst (λ r. Contains r.pieces x.0) (sym (from_append _ prefix more))
      (closed_stay first more x.0 closed) in
      let q = alike_of (all_pieces all) (pieces d) x.0 alike_all (among_all all x.0 (inl later)) in
      (q.0, q.1, read_alike x.0 p q.0 x.2 q.2))
      (λ open_.
      let far = opens_past at first.state.place hand.0 hand.1 hand.2 x.0 open_ in
      let e = x.2.offset_is in
      absurd (omega (arith, far, e, l)))

  second_in_first : AreAlsoIn at d c
  second_in_first q m l =
      let x = of_alike (all_pieces all) (pieces d) q alike_all m in
      let e = x.2.offset_is in
      either ((p : FoundPiece) × Contains (pieces c) p × ReadAlike q p) all.pieces (closed_at_end all.state.place) x.0 x.1
      (λ closed. elim (from_first.closed x.0 closed) [
        | inl old ↦ (let p = alike_of (all_pieces first) (pieces c) x.0 alike_first (among_all first x.0 (inl old)) in
            (p.0, p.1, read_alike x.0 q p.0 x.2 p.2))
        | inr far ↦ absurd (omega (arith, far, e, l))
      ])
      (λ open_. let far = from_first.opens x.0 open_ in absurd (omega (arith, far, e, l)))

  agree : AgreeBefore at c d
  agree =
      let u = ends_after profile prefix c is_c hand_first.0 hand_first.1 in
      let v = ends_after profile (prefix ++ more) d is_d hand_second.0 hand_second.1 in
      record {
        first_framed = framed_by_piece profile prefix c is_c hand_first.0 hand_first.1;
        second_framed = framed_by_piece profile (prefix ++ more) d is_d hand_second.0 hand_second.1;
        first_end = let l = hand_first.2 in let w = u.1 in omega (arith, l, w);
        second_end = let l = hand_second.2 in let w = v.1 in omega (arith, l, w);
        first_in_second = first_in_second;
        second_in_first = second_in_first;
      }

pub prefixes_settle_pieces : (profile : Profile) → PrefixesSettlePiecesUnder profile
prefixes_settle_pieces profile offset prefix more low past c d is_c is_d = agree profile offset prefix more low past c d is_c is_d
