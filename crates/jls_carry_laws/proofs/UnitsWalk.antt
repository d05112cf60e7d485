-- The units of two files that agree outside of pieces.
use Rattle.std.proofs.Common.{◌≡◌, ℕ, ◌+◌, ◌/◌, ◌%◌, ◌≤◌, List, [], ◌∷◌, ◌++◌, length, refl, sym, ap, ◌∙◌}
use Rattle.std.proofs.Common.{subst, arith, inl, inr, ◌⊎◌, append_assoc, length-append, Some, Ok}
use Rattle.std.specs.List.{AllByRecursion, Contains, flat_map}
use Rattle.std.proofs.lemmas.List.{append-nil}
use Rattle.std.proofs.lemmas.List.Elements.{Contains-append_left, Contains-append_right, Contains-append_cases}
use Rattle.jls_values.proofs.Lists.{is_first, none_in}
use Rattle.jls_marker.specs.HeaderState.{HeaderState}
use Rattle.jls_marker.specs.Headers.{headers_after}
use Rattle.jls_marker.specs.Scan.{Scan}
use Rattle.jls_copy.specs.ScanData.{fill_bytes, ClosedPiece, closed_bytes, IsClosedPiece, IsPiece, ScanEnd, at_input, at_marker}
use Rattle.jls_copy.specs.ScanData.{IsScanEnd, end_bytes}
use Rattle.jls_copy.specs.Numbers.{Interval}
use Rattle.jls_copy.specs.Course.{LastClosed, by_input, by_marker, CopyUnit, segment, scan, segment_unit_bytes, scan_data_bytes}
use Rattle.jls_copy.specs.Course.{dropped_bytes}
use Rattle.jls_copy.specs.Course.{unit_bytes, BeginsWithEnd, IsClosing, IsWholeSegment, IsUnit, AreUnits}
use Rattle.jls_copy.specs.Pieces.{FoundPiece, pieces_from, piece_begun, pieces_in, unit_pieces}
use Rattle.jls_copy.specs.declared.end.End.{End}
use Rattle.jls_copy.proofs.OneCut.{no_mark, one_cut}
use Rattle.jls_copy.proofs.OneCourse.{one_unit, no_unit_at_end}
use Rattle.jls_carry_laws.specs.TrueFiles.{PictureLines}
use Rattle.jls_carry_laws.proofs.SameHeads.{IsTrue, Agree, first_bytes, agree_on, from_offset}
use Rattle.jls_carry_laws.proofs.ScanWalk.{Follows, Closes, SameHead, scan_walk, end_not_ff}

-- the segment of a unit
abbrev segment_of : CopyUnit → List ℕ
segment_of (segment fill code payload) = segment_unit_bytes fill code payload
segment_of (scan fill code payload plan closed last closing) = segment_unit_bytes fill code payload

-- pieces begin behind the segment of the first unit
pub in_offset : (index at : ℕ) (us : List CopyUnit) (q : FoundPiece) → Contains (pieces_in index at us) q → at ≤ q.offset
in_offset index at [] q m = absurd (none_in q m)
in_offset index at (segment fill code payload ∷ us) q m =
    let l = in_offset (index + 0) (at + length (segment_unit_bytes fill code payload)) us q m in omega (arith, l)
in_offset index at (scan fill code payload plan closed last closing ∷ us) q m =
    elim (Contains-append_cases (unit_pieces index at (scan fill code payload plan closed last closing)) _ q m) [
      | inl here ↦ (let l = from_offset index plan 0 (Interval 0) (at + length (segment_unit_bytes fill code payload)) closed last q here in
          omega (arith, l))
      | inr later ↦
          (let l = in_offset (index + 1) (at + length (unit_bytes (scan fill code payload plan closed last closing))) us q later in
          omega (arith, l))
    ]

pub behind_segment : (index at : ℕ) (u : CopyUnit) (us : List CopyUnit) (q : FoundPiece) → Contains (pieces_in index at (u ∷ us)) q
    → at + length (segment_of u) ≤ q.offset
behind_segment index at (segment fill code payload) us q m =
    in_offset (index + 0) (at + length (segment_unit_bytes fill code payload)) us q m
behind_segment index at (scan fill code payload plan closed last closing) us q m =
    let head = segment_unit_bytes fill code payload in
    elim (Contains-append_cases (unit_pieces index at (scan fill code payload plan closed last closing)) _ q m) [
      | inl here ↦ from_offset index plan 0 (Interval 0) (at + length head) closed last q here
      | inr later ↦
          (let l = in_offset (index + 1) (at + length (unit_bytes (scan fill code payload plan closed last closing))) us q later in
          let s = length-append head (scan_data_bytes closed last closing) in omega (arith, l, s))
    ]

-- Some unit stands where an SOS does ------------------------------------------------------------------

pub record SomeScan (h after : HeaderState) (fill code : ℕ) (payload : List ℕ) (plan : Scan) (zs : List ℕ) : Type 0 where
  pub closed : List ClosedPiece
  pub last : List ℕ
  pub closing : LastClosed
  pub rest : List ℕ
  pub zs_are : zs ≡ scan_data_bytes closed last closing ++ rest
  pub is_unit : IsUnit h (scan fill code payload plan closed last closing) after rest

some_scan : (h after : HeaderState) (fill code : ℕ) (payload : List ℕ) (plan : Scan) (zs : List ℕ) → IsWholeSegment code payload
    → headers_after h code payload ≡ Ok (after, Some plan) → SomeScan h after fill code payload plan zs
some_scan h after fill code payload plan zs whole takes = let c = one_cut zs in by_end c.0.closed c.0.last c.0.end c.1.whole c.1.each c.1.last c.1.end
  where
    by_end : (closed : List ClosedPiece) (last : List ℕ) (e : ScanEnd) → zs ≡ flat_map closed_bytes closed ++ (last ++ end_bytes e)
        → AllByRecursion IsClosedPiece closed → IsPiece last → IsScanEnd e → SomeScan h after fill code payload plan zs
    by_end closed last (at_input n) e each is end = record {
      closed = closed;
      last = last;
      closing = by_input n;
      rest = [];
      zs_are = e ∙ sym (append-nil (flat_map closed_bytes closed ++ (last ++ fill_bytes n)));
      is_unit = (whole, takes, each, is, refl);
    }
    by_end closed last (at_marker n k more) e each is end = record {
      closed = closed;
      last = last;
      closing = by_marker;
      rest = fill_bytes n ++ (255 ∷ k ∷ more);
      zs_are = e ∙ simp (append_assoc, append-nil) refl;
      is_unit = (whole, takes, each, is, record { fill = n; code = k; following = more; bytes_are = refl; ends = end });
    }

closes : (closing : LastClosed) (rest : List ℕ) → IsClosing closing rest → Closes (dropped_bytes closing ++ rest)
closes (by_input n) rest e = inl (n, ap (λ z. fill_bytes n ++ z) e ∙ append-nil (fill_bytes n))
closes by_marker rest b = inr b

-- where the second scan ends at a marker, nothing of it was dropped
nothing_dropped : (closing : LastClosed) (rest : List ℕ) → IsClosing closing rest → BeginsWithEnd (dropped_bytes closing ++ rest)
    → dropped_bytes closing ≡ []
nothing_dropped (by_input n) rest e b =
    absurd (no_mark n b.fill b.code b.following (end_not_ff b.code b.ends)
    (sym (append-nil (fill_bytes n)) ∙ ap (λ z. fill_bytes n ++ z) (sym e) ∙ b.bytes_are))
nothing_dropped by_marker rest c b = refl

pub unit_not_empty : (u : CopyUnit) (r : List ℕ) → [] ≡ unit_bytes u ++ r → ⊥
unit_not_empty (segment fill code payload) r e =
    let a = ap length e in let b = length-append (segment_unit_bytes fill code payload) r in
    let c = length-append (fill_bytes fill) (255 ∷ code ∷ (length payload + 2) / 256 ∷ (length payload + 2) % 256 ∷ payload) in
    omega (arith, a, b, c)
unit_not_empty (scan fill code payload plan closed last closing) r e =
    let head = segment_unit_bytes fill code payload in
    let a = ap length e in let b = length-append (head ++ scan_data_bytes closed last closing) r in
    let d = length-append head (scan_data_bytes closed last closing) in
    let c = length-append (fill_bytes fill) (255 ∷ code ∷ (length payload + 2) / 256 ∷ (length payload + 2) % 256 ∷ payload) in
    omega (arith, a, b, c, d)

-- what follows a scan in the first file
follows : (h : HeaderState) (index at : ℕ) (rest : List ℕ) (us : List CopyUnit) (l : HeaderState) (e : End) (closing : LastClosed)
    → IsClosing closing rest → AreUnits h at rest us l e
    → (pieces_in index at us ≡ []) ⊎ (Follows (pieces_in index at us) (dropped_bytes closing ++ rest) at × (dropped_bytes closing ≡ []))
follows h index at rest [] l e closing c a = inl refl
follows h index at rest (u ∷ us) l e (by_input n) c (after, left, is, unit, more) = absurd (unit_not_empty u left (sym c ∙ is))
follows h index at rest (segment fill code payload ∷ us) l e by_marker c (after, left, is, unit, more) =
    inr (
      record {
        fill = fill;
        code = code;
        following = (length payload + 2) / 256 ∷ (length payload + 2) % 256 ∷ (payload ++ left);
        xs_are = is ∙ append_assoc (fill_bytes fill) _ left;
        known = unit.0.0;
        beyond = λ q m.
            let b = behind_segment index at (segment fill code payload) us q m in
            let s = length-append (fill_bytes fill) (255 ∷ code ∷ (length payload + 2) / 256 ∷ (length payload + 2) % 256 ∷ payload) in
            let t = length-append (fill_bytes fill) (255 ∷ code ∷ []) in omega (arith, b, s, t);
      },
      refl,
    )
follows h index at rest (scan fill code payload plan closed last closing ∷ us) l e by_marker c (after, left, is, unit, more) =
    inr (
      record {
        fill = fill;
        code = code;
        following = (length payload + 2) / 256 ∷ (length payload + 2) % 256 ∷ (payload ++ (scan_data_bytes closed last closing ++ left));
        xs_are = is ∙ append_assoc (segment_unit_bytes fill code payload) (scan_data_bytes closed last closing) left
            ∙ append_assoc (fill_bytes fill) _ (scan_data_bytes closed last closing ++ left);
        known = unit.0.0;
        beyond = λ q m.
            let b = behind_segment index at (scan fill code payload plan closed last closing) us q m in
            let s = length-append (fill_bytes fill) (255 ∷ code ∷ (length payload + 2) / 256 ∷ (length payload + 2) % 256 ∷ payload) in
            let t = length-append (fill_bytes fill) (255 ∷ code ∷ []) in omega (arith, b, s, t);
      },
      refl,
    )

scan_parts : (flat last dropped rest : List ℕ) → (flat ++ (last ++ dropped)) ++ rest ≡ flat ++ (last ++ (dropped ++ rest))
scan_parts flat last dropped rest = append_assoc flat (last ++ dropped) rest ∙ ap (λ z. flat ++ z) (append_assoc last dropped rest)

-- The walk ----------------------------------------------------------------------------------------------

module _ (picture : PictureLines) where
  -- the second file's units begin with this one
  pub record Begun (h after : HeaderState) (at index : ℕ) (u : CopyUnit) (zs : List ℕ) (vs : List CopyUnit) (l : HeaderState) (e : End)
      : Type 0 where
    pub others : List CopyUnit
    pub units_are : vs ≡ u ∷ others
    pub more : AreUnits after (at + length (unit_bytes u)) zs others l e

  begun : (h after : HeaderState) (at index : ℕ) (u : CopyUnit) (zs ys : List ℕ) (vs : List CopyUnit) (l : HeaderState) (e : End)
      → ys ≡ unit_bytes u ++ zs → IsUnit h u after zs → AreUnits h at ys vs l e → Begun h after at index u zs vs l e
  begun h after at index u zs ys [] l e is unit a = absurd (no_unit_at_end h at ys e u after zs a.1 is unit)
  begun h after at index u zs ys (v ∷ vs) l e is unit (after', rest, is', unit', more) =
      let k = one_unit h ys u v after after' zs rest is unit is' unit' in record {
        others = vs;
        units_are = ap (λ z. z ∷ vs) (sym k.units);
        more = subst (λ z. AreUnits z (at + length (unit_bytes u)) zs vs l e) (sym k.headers)
            (subst (λ z. AreUnits after' (at + length (unit_bytes u)) z vs l e) (sym k.rests)
            (subst (λ z. AreUnits after' (at + length (unit_bytes z)) rest vs l e) (sym k.units) more));
      }

  abbrev pub Ended : List FoundPiece → FoundPiece → Type 0
  Ended theirs p = (q : FoundPiece) × Contains theirs q × SameHead q p

  part_one : (ps qs : List FoundPiece) → AllByRecursion (IsTrue picture) (ps ++ qs) → AllByRecursion (IsTrue picture) ps
  part_one [] qs h = tt
  part_one (p ∷ ps) qs h = (h.0, part_one ps qs h.1)

  part_two : (ps qs : List FoundPiece) → AllByRecursion (IsTrue picture) (ps ++ qs) → AllByRecursion (IsTrue picture) qs
  part_two [] qs h = h
  part_two (p ∷ ps) qs h = part_two ps qs h.1

  pub units_walk : (h : HeaderState) (at index : ℕ) (xs ys : List ℕ) (us vs : List CopyUnit) (lf lg : HeaderState) (ef eg : End)
      (earlier later : List FoundPiece) (p : FoundPiece) → AreUnits h at xs us lf ef → AreUnits h at ys vs lg eg
      → pieces_in index at us ≡ earlier ++ p ∷ later → AllByRecursion (IsTrue picture) earlier
      → AllByRecursion (IsTrue picture) (pieces_in index at vs) → Agree earlier at p.offset xs ys → Ended (pieces_in index at vs) p
  units_walk h at index xs ys [] vs lf lg ef eg earlier later p a b is good theirs agree =
      absurd (let n = ap length is in let m = length-append earlier (p ∷ later) in omega (arith, n, m))
  units_walk h at index xs ys (segment fill code payload ∷ us) vs lf lg ef eg earlier later p (after, rest, e, unit, more) b is good theirs
      agree =
      let u = segment fill code payload in let ub = segment_unit_bytes fill code payload in
      let here : Contains (pieces_in index at (u ∷ us)) p =
      subst (λ z. Contains z p) (sym is) (Contains-append_right earlier (p ∷ later) p (is_first p later)) in
      let r = first_bytes earlier at p.offset ub rest ys (subst (λ z. Agree earlier at p.offset z ys) e agree)
      (behind_segment index at u us p here)
      (λ q c. behind_segment index at u us q (subst (λ z. Contains z q) (sym is) (Contains-append_left earlier (p ∷ later) q c))) in
      let g = begun h after at index u r.0 ys vs lg eg r.1 unit b in
      let on = agree_on earlier at p.offset ub ub rest r.0 refl
      (subst (λ z. Agree earlier at p.offset (ub ++ rest) z) r.1 (subst (λ z. Agree earlier at p.offset z ys) e agree)) in
      let w = units_walk after (at + length ub) (index + 0) rest r.0 us g.others lf lg ef eg earlier later p more g.more is good
      (subst (λ z. AllByRecursion (IsTrue picture) (pieces_in index at z)) g.units_are theirs) on in
      (w.0, subst (λ z. Contains (pieces_in index at z) w.0) (sym g.units_are) w.1, w.2)
  units_walk h at index xs ys (scan fill code payload plan closed last closing ∷ us) vs lf lg ef eg earlier later p
      (after, rest, e, (whole, takes, cf, pf, shut), more) b is good theirs agree =
      let u = scan fill code payload plan closed last closing in let head = segment_unit_bytes fill code payload in
      let body = scan_data_bytes closed last closing in let ub = head ++ body in
      let left : xs ≡ head ++ (body ++ rest) = e ∙ append_assoc head body rest in
      let agree0 : Agree earlier at p.offset (head ++ (body ++ rest)) ys = subst (λ z. Agree earlier at p.offset z ys) left agree in
      let here : Contains (pieces_in index at (u ∷ us)) p =
      subst (λ z. Contains z p) (sym is) (Contains-append_right earlier (p ∷ later) p (is_first p later)) in
      let r = first_bytes earlier at p.offset head (body ++ rest) ys agree0 (behind_segment index at u us p here)
      (λ q c. behind_segment index at u us q (subst (λ z. Contains z q) (sym is) (Contains-append_left earlier (p ∷ later) q c))) in
      let sc = some_scan h after fill code payload plan r.0 whole takes in
      let v = scan fill code payload plan sc.closed sc.last sc.closing in
      let body_of_v = scan_data_bytes sc.closed sc.last sc.closing in
      let g = begun h after at index v sc.rest ys vs lg eg
      (r.1 ∙ ap (λ z. head ++ z) sc.zs_are ∙ sym (append_assoc head body_of_v sc.rest)) sc.is_unit b in
      let at1 = at + length head in let at2 = at + length ub in
      let flat = flat_map closed_bytes closed in let flat' = flat_map closed_bytes sc.closed in
      let after_ps = pieces_in (index + 1) at2 us in
      let stop = at1 + length (flat ++ last) in
      let xs1 = dropped_bytes closing ++ rest in let ys1 = dropped_bytes sc.closing ++ sc.rest in
      let s1 = length-append head body in let s2 = length-append flat (last ++ dropped_bytes closing) in
      let s3 = length-append last (dropped_bytes closing) in let s4 = length-append flat last in
      let f = follows after (index + 1) at2 rest us lf ef closing shut more in
      let at2_is : dropped_bytes closing ≡ [] → at2 ≡ stop = λ none. let d = ap length none in omega (arith, s1, s2, s3, s4, d) in
      let tail : (after_ps ≡ []) ⊎ Follows after_ps xs1 stop = elim f [
        | inl none ↦ inl none
        | inr w ↦ inr (subst (λ z. Follows after_ps xs1 z) (at2_is w.1) w.0)
      ] in
      let agree1 = agree_on earlier at p.offset head head (body ++ rest) r.0 refl
      (subst (λ z. Agree earlier at p.offset (head ++ (body ++ rest)) z) r.1 agree0) in
      let mine : body ++ rest ≡ flat ++ (last ++ xs1) = scan_parts flat last (dropped_bytes closing) rest in
      let others : r.0 ≡ flat' ++ (sc.last ++ ys1) = sc.zs_are
      ∙ scan_parts flat' sc.last (dropped_bytes sc.closing) sc.rest in
      let agree2 : Agree earlier at1 p.offset (flat ++ (last ++ xs1)) (flat' ++ (sc.last ++ ys1)) =
      subst (λ z. Agree earlier at1 p.offset (flat ++ (last ++ xs1)) z) others (subst (λ z. Agree earlier at1 p.offset z r.0) mine agree1) in
      let theirs1 = subst (λ z. AllByRecursion (IsTrue picture) (pieces_in index at z)) g.units_are theirs in
      let first_part = pieces_from (piece_begun index plan (Interval 0) at1) 0 sc.closed sc.last in
      let w = scan_walk picture index plan 0 (Interval 0) at1 stop closed sc.closed last sc.last xs1 ys1 after_ps earlier later p cf
      sc.is_unit.2 pf sc.is_unit.3 refl is tail (closes sc.closing sc.rest sc.is_unit.4) good (part_one first_part _ theirs1) agree2 in
      elim w [
        | inl found_there ↦ (
          found_there.0,
          subst (λ z. Contains (pieces_in index at z) found_there.0) (sym g.units_are)
              (Contains-append_left first_part _ found_there.0 found_there.1),
          found_there.2,
        )
        | inr later_there ↦ (
            let bh = later_there.0 in let same_size = later_there.1 in
            elim f [
              | inl none ↦ absurd (let n = ap length (sym none ∙ bh.after_is) in let m = length-append bh.earlier (p ∷ later) in
                  omega (arith, n, m))
              | inr wf ↦ (
                  let none' = nothing_dropped sc.closing sc.rest sc.is_unit.4 bh.closed in
                  let a0 : Agree bh.earlier at2 p.offset xs1 ys1 =
                  subst (λ z. Agree bh.earlier z p.offset xs1 ys1) (sym (at2_is wf.1)) bh.agree in
                  let a1 : Agree bh.earlier at2 p.offset rest ys1 =
                  subst (λ d. Agree bh.earlier at2 p.offset (d ++ rest) ys1) wf.1 a0 in
                  let a2 : Agree bh.earlier at2 p.offset rest sc.rest =
                  subst (λ d. Agree bh.earlier at2 p.offset rest (d ++ sc.rest)) none' a1 in
                  let t1 = length-append head body_of_v in let t2 = length-append flat' (sc.last ++ dropped_bytes sc.closing) in
                  let t3 = length-append sc.last (dropped_bytes sc.closing) in let t4 = length-append flat' sc.last in
                  let d1 = ap length wf.1 in let d2 = ap length none' in
                  let place : at + length (unit_bytes v) ≡ at2 = omega (arith, s1, s2, s3, s4, t1, t2, t3, t4, d1, d2, same_size) in
                  let x = units_walk after at2 (index + 1) rest sc.rest us g.others lf lg ef eg bh.earlier later p more
                  (subst (λ z. AreUnits after z sc.rest g.others lg eg) place g.more) bh.after_is bh.each
                  (subst (λ z. AllByRecursion (IsTrue picture) (pieces_in (index + 1) z g.others)) place (part_two first_part _ theirs1)) a2 in (
                    x.0,
                    subst (λ z. Contains (pieces_in index at z) x.0) (sym g.units_are)
                        (Contains-append_right first_part _ x.0
                        (subst (λ z. Contains (pieces_in (index + 1) z g.others) x.0) (sym place) x.1)),
                    x.2,
                  ))
            ])
      ]
