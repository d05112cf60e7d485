-- The pieces of one scan in two files that agree outside of pieces.
use Rattle.std.proofs.Common.{◌≡◌, ℕ, ◌+◌, ◌<◌, ◌≤◌, ◌≢◌, Bool, true, false, List, [], ◌∷◌, ◌++◌, length, refl, sym, ap, ◌∙◌}
use Rattle.std.proofs.Common.{subst, arith, inl, inr, ◌⊎◌, append_assoc, length-append}
use Rattle.std.specs.List.{AllByRecursion, Contains, flat_map}
use Rattle.std.proofs.lemmas.List.Elements.{Contains-append_left, Contains-append_right, Contains-append_cases}
use Rattle.jls_values.proofs.Lists.{is_first, in_rest, none_in}
use Rattle.jls_marker.specs.MarkerCodes.{has_segment}
use Rattle.jls_marker.specs.Scan.{Scan, intervals}
use Rattle.jls_copy.specs.ScanData.{fill_bytes, ClosedPiece, closed_bytes, IsClosedPiece, IsPiece, ends_scan_data}
use Rattle.jls_copy.specs.Numbers.{PieceNumber, number_after, given_last}
use Rattle.jls_copy.specs.Course.{BeginsWithEnd}
use Rattle.jls_copy.specs.Pieces.{FoundPiece, pieces_from, piece_begun}
use Rattle.jls_copy.proofs.OneCut.{no_mark}
use Rattle.jls_carry_laws.specs.TrueFiles.{PictureLines}
use Rattle.jls_carry_laws.proofs.SameHeads.{IsTrue, true_length, Agree, first_bytes, agree_on, agree_less, one_mark, of_mark, from_offset}

-- what follows a scan in the first file: a marker that begins a segment, before all pieces after the scan
pub record Follows (after : List FoundPiece) (xs : List ℕ) (stop : ℕ) : Type 0 where
  pub fill : ℕ
  pub code : ℕ
  pub following : List ℕ
  pub xs_are : xs ≡ fill_bytes fill ++ (255 ∷ code ∷ following)
  pub known : has_segment code ≡ true
  pub beyond : (q : FoundPiece) → Contains after q → stop + length (fill_bytes fill ++ (255 ∷ code ∷ [])) ≤ q.offset

-- what follows it in the second
abbrev pub Closes : List ℕ → Type 0
Closes ys = ((n : ℕ) × (ys ≡ fill_bytes n)) ⊎ BeginsWithEnd ys

pub record SameHead (q p : FoundPiece) : Type 0 where
  pub plan : q.plan ≡ p.plan
  pub number : q.number ≡ p.number
  pub offset : q.offset ≡ p.offset

pub record Behind (picture : PictureLines) (after later : List FoundPiece) (p : FoundPiece) (stop : ℕ) (xs ys : List ℕ) : Type 0 where
  pub earlier : List FoundPiece
  pub after_is : after ≡ earlier ++ p ∷ later
  pub each : AllByRecursion (IsTrue picture) earlier
  pub agree : Agree earlier stop p.offset xs ys
  pub closed : BeginsWithEnd ys

not_ff : (code : ℕ) → has_segment code ≡ true → code ≢ 255
unfolding has_segment
not_ff code k e = let f : has_segment 255 ≡ true = subst (λ z. has_segment z ≡ true) e k in cc

pub end_not_ff : (code : ℕ) → ends_scan_data code ≡ true → code ≢ 255
end_not_ff code h e = let f : ends_scan_data 255 ≡ true = subst (λ z. ends_scan_data z ≡ true) e h in cc

mark_not_ff : (m : ℕ) → m < 8 → 208 + m ≢ 255
mark_not_ff m l e = omega (arith, l, e)

clash : (b : Bool) → b ≡ true → b ≡ false → ⊥
clash b e f = let g : true ≡ false = sym e ∙ f in cc

heads : (x y : FoundPiece) (xs ys : List FoundPiece) → x ∷ xs ≡ y ∷ ys → (x ≡ y) × (xs ≡ ys)
heads x y xs ys e = (cc, cc)

module _ (picture : PictureLines) (index : ℕ) (s : Scan) where
  abbrev found : PieceNumber → ℕ → List ℕ → FoundPiece
  found number at bytes = record { scan = index; plan = s; number = number; offset = at; bytes = bytes }

  abbrev pub all_from : ℕ → PieceNumber → ℕ → List ClosedPiece → List ℕ → List FoundPiece
  all_from last number at closed bytes = pieces_from (piece_begun index s number at) last closed bytes

  -- the first piece
  first_is : (last : ℕ) (number : PieceNumber) (at : ℕ) (closed : List ClosedPiece) (bytes : List ℕ) (p : FoundPiece)
      → p.plan ≡ s → p.number ≡ number → p.offset ≡ at → (q : FoundPiece) × Contains (all_from last number at closed bytes) q × SameHead q p
  first_is last number at [] bytes p a b c =
      (found number at bytes, is_first _ [], record { plan = sym a; number = sym b; offset = sym c })
  first_is last number at (d ∷ closed) bytes p a b c =
      (found number at d.piece, is_first _ _, record { plan = sym a; number = sym b; offset = sym c })

  -- what follows the last piece of a scan in the first file, stands behind that piece in the second
  after_last : (after earlier later : List FoundPiece) (p : FoundPiece) (stop : ℕ) (xs ys : List ℕ) → after ≡ earlier ++ p ∷ later
      → (w : Follows after xs stop) → Agree earlier stop p.offset xs ys → (zs : List ℕ) × (ys ≡ fill_bytes w.fill ++ (255 ∷ w.code ∷ zs))
  after_last after earlier later p stop xs ys is w h =
      let us = fill_bytes w.fill ++ (255 ∷ w.code ∷ []) in
      let whole : xs ≡ us ++ w.following = w.xs_are ∙ sym (append_assoc (fill_bytes w.fill) (255 ∷ w.code ∷ []) w.following) in
      let here : Contains after p = subst (λ z. Contains z p) (sym is) (Contains-append_right earlier (p ∷ later) p (is_first p later)) in
      let r = first_bytes earlier stop p.offset us w.following ys (subst (λ z. Agree earlier stop p.offset z ys) whole h) (w.beyond p here)
      (λ q c. w.beyond q (subst (λ z. Contains z q) (sym is) (Contains-append_left earlier (p ∷ later) q c))) in
      (r.0, r.1 ∙ append_assoc (fill_bytes w.fill) (255 ∷ w.code ∷ []) r.0)

  regroup : (c : ClosedPiece) (gs : List ClosedPiece) (gl ys : List ℕ) → flat_map closed_bytes (c ∷ gs) ++ (gl ++ ys)
      ≡ c.piece ++ (fill_bytes c.fill ++ (255 ∷ (208 + c.mark) ∷ (flat_map closed_bytes gs ++ (gl ++ ys))))
  regroup c gs gl ys = simp append_assoc refl

  abbrev after_mark : ℕ → ℕ → ℕ → List ClosedPiece → List ℕ → List FoundPiece
  after_mark last mark at closed bytes =
      let next = number_after (intervals s) last mark in all_from (given_last last next) next at closed bytes

  -- one closed piece with its mark
  closed_step : (last : ℕ) (number : PieceNumber) (at stop : ℕ) (c : ClosedPiece) (fs : List ClosedPiece) (fl xs : List ℕ)
      (after earlier later : List FoundPiece) (p q : FoundPiece) (y ys : List ℕ)
      → stop ≡ at + length (flat_map closed_bytes (c ∷ fs) ++ fl) → found number at c.piece ≡ q
      → after_mark last c.mark (at + length (closed_bytes c)) fs fl ++ after ≡ earlier ++ p ∷ later
      → ((after ≡ []) ⊎ Follows after xs stop) → length c.piece ≡ length y
      → Agree (q ∷ earlier) at p.offset (flat_map closed_bytes (c ∷ fs) ++ (fl ++ xs)) (y ++ ys)
      → (zs : List ℕ) × (ys ≡ fill_bytes c.fill ++ (255 ∷ (208 + c.mark) ∷ zs))
      × Agree earlier (at + length (closed_bytes c)) p.offset (flat_map closed_bytes fs ++ (fl ++ xs)) zs
  closed_step last number at stop c fs fl xs after earlier later p q y ys stop_is q_is is tail l h =
      let us = fill_bytes c.fill ++ (255 ∷ (208 + c.mark) ∷ []) in let rest = flat_map closed_bytes fs ++ (fl ++ xs) in
      let next = number_after (intervals s) last c.mark in let at' = at + length (closed_bytes c) in
      let size : length (closed_bytes c) ≡ length c.piece + length us = length-append c.piece us in
      let s1 = length-append (flat_map closed_bytes (c ∷ fs)) fl in let s2 = length-append (closed_bytes c) (flat_map closed_bytes fs) in
      let low : at' ≤ stop = omega (arith, stop_is, s1, s2) in
      let beyond : (r : FoundPiece) → Contains (after_mark last c.mark at' fs fl ++ after) r → at' ≤ r.offset = λ r among.
      elim (Contains-append_cases (after_mark last c.mark at' fs fl) after r among) [
        | inl here ↦ from_offset index s (given_last last next) next at' fs fl r here
        | inr later ↦ elim tail [
          | inl none ↦ absurd (none_in r (subst (λ z. Contains z r) none later))
          | inr w ↦ (let b = w.beyond r later in omega (arith, b, low))
        ]
      ] in
      let whole : flat_map closed_bytes (c ∷ fs) ++ (fl ++ xs) ≡ c.piece ++ (us ++ rest) = simp append_assoc refl in
      let a1 = agree_on (q ∷ earlier) at p.offset c.piece y (us ++ rest) ys l
      (subst (λ z. Agree (q ∷ earlier) at p.offset z (y ++ ys)) whole h) in
      let o1 = ap (λ (v : FoundPiece). v.offset) q_is in let o2 = ap (λ (v : FoundPiece). length v.bytes) q_is in
      let a2 = agree_less q earlier (at + length c.piece) p.offset (us ++ rest) ys (omega (arith, o1, o2)) a1 in
      let here : at' ≤ p.offset =
      beyond p (subst (λ z. Contains z p) (sym is) (Contains-append_right earlier (p ∷ later) p (is_first p later))) in
      let r = first_bytes earlier (at + length c.piece) p.offset us rest ys a2 (omega (arith, here, size))
      (λ v among. let b = beyond v (subst (λ z. Contains z v) (sym is) (Contains-append_left earlier (p ∷ later) v among)) in
      omega (arith, b, size)) in
      let a3 = agree_on earlier (at + length c.piece) p.offset us us rest r.0 refl
      (subst (λ z. Agree earlier (at + length c.piece) p.offset (us ++ rest) z) r.1 a2) in
      let place : at + length c.piece + length us ≡ at' = omega (arith, size) in (
        r.0,
        r.1 ∙ append_assoc (fill_bytes c.fill) (255 ∷ (208 + c.mark) ∷ []) r.0,
        subst (λ z. Agree earlier z p.offset rest r.0) place a3,
      )

  -- what the walk over a scan ends in: a piece of the second file has the head of p. Or p comes later, and the scans are equally long
  abbrev pub Walked : List FoundPiece → List FoundPiece → List FoundPiece → FoundPiece → ℕ → ℕ → ℕ → List ℕ → List ℕ → Type 0
  Walked theirs after later p stop mine other xs ys =
      ((q : FoundPiece) × Contains theirs q × SameHead q p) ⊎ (Behind picture after later p stop xs ys × (mine ≡ other))

  pub scan_walk : (last : ℕ) (number : PieceNumber) (at stop : ℕ) (fs gs : List ClosedPiece) (fl gl xs ys : List ℕ)
      (after earlier later : List FoundPiece) (p : FoundPiece) → AllByRecursion IsClosedPiece fs → AllByRecursion IsClosedPiece gs
      → IsPiece fl → IsPiece gl → stop ≡ at + length (flat_map closed_bytes fs ++ fl)
      → all_from last number at fs fl ++ after ≡ earlier ++ p ∷ later → ((after ≡ []) ⊎ Follows after xs stop) → Closes ys
      → AllByRecursion (IsTrue picture) earlier → AllByRecursion (IsTrue picture) (all_from last number at gs gl)
      → Agree earlier at p.offset (flat_map closed_bytes fs ++ (fl ++ xs)) (flat_map closed_bytes gs ++ (gl ++ ys))
      → Walked (all_from last number at gs gl) after later p stop (length (flat_map closed_bytes fs ++ fl))
      (length (flat_map closed_bytes gs ++ gl)) xs ys
  scan_walk last number at stop [] gs fl gl xs ys after [] later p cf cg pf pg stop_is is tail shut good theirs h =
      let e = (heads _ p _ later is).0 in
      inl (first_is last number at gs gl p (ap (λ (v : FoundPiece). v.plan) (sym e)) (ap (λ (v : FoundPiece). v.number) (sym e))
      (ap (λ (v : FoundPiece). v.offset) (sym e)))
  scan_walk last number at stop (c ∷ fs) gs fl gl xs ys after [] later p cf cg pf pg stop_is is tail shut good theirs h =
      let e = (heads _ p _ later is).0 in
      inl (first_is last number at gs gl p (ap (λ (v : FoundPiece). v.plan) (sym e)) (ap (λ (v : FoundPiece). v.number) (sym e))
      (ap (λ (v : FoundPiece). v.offset) (sym e)))
  scan_walk last number at stop [] [] fl gl xs ys after (q ∷ earlier) later p cf cg pf pg stop_is is tail shut good theirs h =
      let e = heads (found number at fl) q _ _ is in
      let own : IsTrue picture (found number at fl) = subst (IsTrue picture) (sym e.0) good.0 in
      let l = true_length picture s number (found number at fl) (found number at gl) refl refl refl refl pf pg own theirs.0 in
      let o1 = ap (λ (v : FoundPiece). v.offset) e.0 in let o2 = ap (λ (v : FoundPiece). length v.bytes) e.0 in
      let a = agree_less q earlier (at + length fl) p.offset xs ys (omega (arith, o1, o2))
      (agree_on (q ∷ earlier) at p.offset fl gl xs ys l h) in
      let b : Agree earlier stop p.offset xs ys = subst (λ z. Agree earlier z p.offset xs ys) (sym stop_is) a in
      elim tail [
        | inl none ↦ absurd (let n = ap length (sym none ∙ e.1) in let m = length-append earlier (p ∷ later) in omega (arith, n, m))
        | inr w ↦ (
            let r = after_last after earlier later p stop xs ys e.1 w b in
            elim shut [
              | inl fills ↦ absurd (no_mark fills.0 w.fill w.code r.0 (not_ff w.code w.known) (sym fills.1 ∙ r.1))
              | inr closed ↦ inr (
                record { earlier = earlier; after_is = e.1; each = good.1; agree = b; closed = closed },
                l,
              )
            ])
      ]
  scan_walk last number at stop [] (d ∷ gs) fl gl xs ys after (q ∷ earlier) later p cf cg pf pg stop_is is tail shut good theirs h =
      let e = heads (found number at fl) q _ _ is in
      let own : IsTrue picture (found number at fl) = subst (IsTrue picture) (sym e.0) good.0 in
      let l = true_length picture s number (found number at fl) (found number at d.piece) refl refl refl refl pf cg.0.0 own theirs.0 in
      let o1 = ap (λ (v : FoundPiece). v.offset) e.0 in let o2 = ap (λ (v : FoundPiece). length v.bytes) e.0 in
      let behind = fill_bytes d.fill ++ (255 ∷ (208 + d.mark) ∷ (flat_map closed_bytes gs ++ (gl ++ ys))) in
      let a = agree_less q earlier (at + length fl) p.offset xs behind (omega (arith, o1, o2))
      (agree_on (q ∷ earlier) at p.offset fl d.piece xs behind l
      (subst (λ z. Agree (q ∷ earlier) at p.offset (fl ++ xs) z) (regroup d gs gl ys) h)) in
      let b : Agree earlier stop p.offset xs behind = subst (λ z. Agree earlier z p.offset xs behind) (sym stop_is) a in
      elim tail [
        | inl none ↦ absurd (let n = ap length (sym none ∙ e.1) in let m = length-append earlier (p ∷ later) in omega (arith, n, m))
        | inr w ↦ (
            let r = after_last after earlier later p stop xs behind e.1 w b in
            let m = one_mark d.fill w.fill (208 + d.mark) w.code _ r.0 (mark_not_ff d.mark cg.0.1) (not_ff w.code w.known) r.1 in
            absurd (clash (has_segment (208 + d.mark)) (subst (λ z. has_segment z ≡ true) (sym m.1) w.known) (of_mark d.mark cg.0.1).1))
      ]
  scan_walk last number at stop (c ∷ fs) [] fl gl xs ys after (q ∷ earlier) later p cf cg pf pg stop_is is tail shut good theirs h =
      let e = heads (found number at c.piece) q _ _ is in
      let own : IsTrue picture (found number at c.piece) = subst (IsTrue picture) (sym e.0) good.0 in
      let l = true_length picture s number (found number at c.piece) (found number at gl) refl refl refl refl cf.0.0 pg own theirs.0 in
      let r = closed_step last number at stop c fs fl xs after earlier later p q gl ys stop_is e.0 e.1 tail l h in
      elim shut [
        | inl fills ↦ absurd (no_mark fills.0 c.fill (208 + c.mark) r.0 (mark_not_ff c.mark cf.0.1) (sym fills.1 ∙ r.1))
        | inr b ↦ (
            let m = one_mark b.fill c.fill b.code (208 + c.mark) b.following r.0 (end_not_ff b.code b.ends) (mark_not_ff c.mark cf.0.1)
            (sym b.bytes_are ∙ r.1) in
            absurd (clash (ends_scan_data (208 + c.mark)) (subst (λ z. ends_scan_data z ≡ true) m.1 b.ends) (of_mark c.mark cf.0.1).0))
      ]
  scan_walk last number at stop (c ∷ fs) (d ∷ gs) fl gl xs ys after (q ∷ earlier) later p cf cg pf pg stop_is is tail shut good theirs h =
      let e = heads (found number at c.piece) q _ _ is in
      let own : IsTrue picture (found number at c.piece) = subst (IsTrue picture) (sym e.0) good.0 in
      let l = true_length picture s number (found number at c.piece) (found number at d.piece) refl refl refl refl cf.0.0 cg.0.0 own theirs.0 in
      let others = flat_map closed_bytes gs ++ (gl ++ ys) in
      let behind = fill_bytes d.fill ++ (255 ∷ (208 + d.mark) ∷ others) in
      let r = closed_step last number at stop c fs fl xs after earlier later p q d.piece behind stop_is e.0 e.1 tail l
      (subst (λ z. Agree (q ∷ earlier) at p.offset (flat_map closed_bytes (c ∷ fs) ++ (fl ++ xs)) z) (regroup d gs gl ys) h) in
      let m = one_mark d.fill c.fill (208 + d.mark) (208 + c.mark) others r.0 (mark_not_ff d.mark cg.0.1) (mark_not_ff c.mark cf.0.1) r.1 in
      let m0 : d.fill ≡ c.fill = m.0 in let m1 = m.1 in
      let mark : d.mark ≡ c.mark = omega (arith, m1) in
      let lc = length-append c.piece (fill_bytes c.fill ++ (255 ∷ (208 + c.mark) ∷ [])) in
      let ld = length-append d.piece (fill_bytes d.fill ++ (255 ∷ (208 + d.mark) ∷ [])) in
      let lf : length (fill_bytes d.fill ++ (255 ∷ (208 + d.mark) ∷ [])) ≡ length (fill_bytes c.fill ++ (255 ∷ (208 + c.mark) ∷ [])) =
      ap (λ f. length (fill_bytes f ++ (255 ∷ (208 + d.mark) ∷ []))) m0
      ∙ ap (λ k. length (fill_bytes c.fill ++ (255 ∷ (208 + k) ∷ []))) mark in
      let size : length (closed_bytes c) ≡ length (closed_bytes d) = omega (arith, lc, ld, lf, l) in
      let at' = at + length (closed_bytes c) in
      let place : at + length (closed_bytes d) ≡ at' = omega (arith, size) in
      let next = number_after (intervals s) last c.mark in
      let same : after_mark last d.mark (at + length (closed_bytes d)) gs gl ≡ after_mark last c.mark at' gs gl =
      ap (λ k. after_mark last k (at + length (closed_bytes d)) gs gl) mark ∙ ap (λ z. after_mark last c.mark z gs gl) place in
      let s1 = length-append (flat_map closed_bytes (c ∷ fs)) fl in let s2 = length-append (closed_bytes c) (flat_map closed_bytes fs) in
      let s3 = length-append (flat_map closed_bytes fs) fl in
      let t1 = length-append (flat_map closed_bytes (d ∷ gs)) gl in let t2 = length-append (closed_bytes d) (flat_map closed_bytes gs) in
      let t3 = length-append (flat_map closed_bytes gs) gl in
      let walked = scan_walk (given_last last next) next at' stop fs gs fl gl xs ys after earlier later p cf.1 cg.1 pf pg
      (omega (arith, stop_is, s1, s2, s3)) e.1 tail shut good.1 (subst (AllByRecursion (IsTrue picture)) same theirs.1)
      (subst (λ z. Agree earlier at' p.offset (flat_map closed_bytes fs ++ (fl ++ xs)) z) (sym m.2) r.2) in
      elim walked [
        | inl found_there ↦ inl (
          found_there.0,
          in_rest found_there.0 _ _ (subst (λ z. Contains z found_there.0) (sym same) found_there.1),
          found_there.2,
        )
        | inr behind_it ↦ inr (behind_it.0, (let n = behind_it.1 in omega (arith, n, s1, s2, s3, t1, t2, t3, size)))
      ]
