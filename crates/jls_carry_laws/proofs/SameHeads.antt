-- Pieces before which all lines are the picture's, and all bytes outside of pieces are alike, begin at the same offsets in both files.
use Rattle.std.proofs.Common.{◌≡◌, ℕ, zero, suc, ◌+◌, ◌<◌, ◌≤◌, ◌≢◌, false, List, [], ◌∷◌, ◌++◌, length, refl, sym, ap, ◌∙◌}
use Rattle.std.proofs.Common.{subst, arith, inl, inr, length-append, get_or}
use Rattle.std.specs.List.{AllByRecursion, Contains}
use Rattle.std.specs.Prelude.{if◌then◌else◌, ◌==◌}
use Rattle.std.proofs.lemmas.List.{get_or-append-add}
use Rattle.std.proofs.lemmas.List.Elements.{Contains-append_left, Contains-append_right}
use Rattle.jls_values.proofs.Lists.{is_first, in_rest, none_in, first_or_rest}
use Rattle.jls_piece.specs.Reads.{Reads}
use Rattle.jls_partial.specs.Reading.{Reading}
use Rattle.jls_marker.specs.MarkerCodes.{has_segment}
use Rattle.jls_marker.specs.Scan.{Scan, intervals, first_row}
use Rattle.jls_copy.specs.ScanData.{fill_bytes, ClosedPiece, closed_bytes, IsPiece, ends_scan_data}
use Rattle.jls_copy.specs.Numbers.{PieceNumber, Interval, BeyondLast, number_after, given_last}
use Rattle.jls_copy.specs.IntervalOf.{interval_of}
use Rattle.jls_copy.specs.Pieces.{FoundPiece, PieceOutcome, Lines, Fault, IsOutcomeAt, AreOutcomes, outcome_readings, readings, records}
use Rattle.jls_copy.specs.Pieces.{records_of}
use Rattle.jls_copy.specs.Pieces.{placed, pieces_from, piece_begun}
use Rattle.jls_carry_laws.specs.StrictlyHeld.{IsIn}
use Rattle.jls_carry_laws.specs.TrueFiles.{PictureLines, IsPictureLine, IsTruePiece}
use Rattle.jls_carry_laws.proofs.OneLength.{one_length}

-- Pieces that read as the picture's lines -------------------------------------------------------------

pub all_of : {X : Type 0} (P : X → Type 0) (xs : List X) → ((x : X) → Contains xs x → P x) → AllByRecursion P xs
all_of P [] f = tt
all_of P (x ∷ xs) f = (f x (is_first x xs), all_of P xs (λ y c. f y (in_rest y x xs c)))

-- the number of an interval
pub one_number : (j k : ℕ) → Interval j ≡ Interval k → j ≡ k
one_number j k e = cc

module _ (picture : PictureLines) where
  abbrev pub IsTrue : FoundPiece → Type 0
  IsTrue q = (k : ℕ) × IsTruePiece picture q k

  one_true : (p : FoundPiece) (o : PieceOutcome) (number : PieceNumber) → p.number ≡ number → IsOutcomeAt p.plan number p.bytes o
      → records_of p o ≡ [] → ((s : Reading) → Contains (outcome_readings p.plan number o) s → IsPictureLine picture s) → IsTrue p
  one_true p (Lines lines) (Interval k) e is none known =
      (k, record { number_is = e; lines = lines; reads = is; each = all_of (IsPictureLine picture) _ known })
  one_true p (Fault f) (Interval k) e is none known = absurd cc
  one_true p (Lines lines) (BeyondLast k) e is none known = absurd is
  one_true p (Fault f) (BeyondLast k) e is none known = absurd cc

  no_records : {X : Type 0} (xs ys : List X) → xs ++ ys ≡ [] → (xs ≡ []) × (ys ≡ [])
  no_records [] ys e = (refl, e)
  no_records (x ∷ xs) ys e = absurd (let a = ap length e in omega (arith, a))

  pub all_true : (ps : List FoundPiece) (os : List PieceOutcome) → AreOutcomes ps os → records ps os ≡ []
      → ((s : Reading) → Contains (readings ps os) s → IsPictureLine picture s) → AllByRecursion IsTrue ps
  all_true [] os are none known = tt
  all_true (p ∷ ps) [] are none known = absurd are
  all_true (p ∷ ps) (o ∷ os) are none known =
      let n = no_records (records_of p o) (records ps os) none in (
        one_true p o p.number refl are.0 n.0 (λ s c. known s (Contains-append_left _ _ s c)),
        all_true ps os are.1 n.1 (λ s c. known s (Contains-append_right _ _ s c)),
      )

  same_lines : (cs : List ℕ) (row place : ℕ) (xs ys : List (List ℕ)) → AllByRecursion (IsPictureLine picture) (placed cs row place xs)
      → AllByRecursion (IsPictureLine picture) (placed cs row place ys) → length xs ≡ length ys → xs ≡ ys
  same_lines cs row place [] [] a b l = refl
  same_lines cs row place [] (y ∷ ys) a b l = absurd (omega (arith, l))
  same_lines cs row place (x ∷ xs) [] a b l = absurd (omega (arith, l))
  same_lines cs row place (x ∷ xs) (y ∷ ys) a b l =
      let h : x ≡ y = a.0 ∙ sym b.0 in
      ap (λ z. z ∷ xs) h ∙ ap (λ z. y ∷ z) (same_lines cs (if (place + 1 == length cs) then row + 1 else row)
      (if (place + 1 == length cs) then 0 else place + 1) xs ys a.1 b.1 (omega (arith, l)))

  -- two pieces of one interval are equally long
  pub true_length : (s : Scan) (number : PieceNumber) (p q : FoundPiece) → p.plan ≡ s → q.plan ≡ s → p.number ≡ number
      → q.number ≡ number → IsPiece p.bytes → IsPiece q.bytes → IsTrue p → IsTrue q → length p.bytes ≡ length q.bytes
  true_length s number p q ep eq np nq ip iq (j, a) (k, b) =
      let jk : k ≡ j = one_number k j (sym b.number_is ∙ nq ∙ sym np ∙ a.number_is) in
      let plan : q.plan ≡ p.plan = eq ∙ sym ep in
      let b0 : Reads (interval_of p.plan j) q.bytes b.lines =
      subst (λ n. Reads (interval_of p.plan n) q.bytes b.lines) jk (subst (λ v. Reads (interval_of v k) q.bytes b.lines) plan b.reads) in
      let b1 : AllByRecursion (IsPictureLine picture) (placed p.plan.components (first_row p.plan j) 0 b.lines) =
      subst (λ n. AllByRecursion (IsPictureLine picture) (placed p.plan.components (first_row p.plan n) 0 b.lines)) jk
      (subst (λ (v : Scan). AllByRecursion (IsPictureLine picture) (placed v.components (first_row v k) 0 b.lines)) plan b.each) in
      let same : b.lines ≡ a.lines = same_lines p.plan.components (first_row p.plan j) 0 b.lines a.lines b1 a.each
      (b0.begins.are_lines.count_is ∙ sym a.reads.begins.are_lines.count_is) in
      one_length (interval_of p.plan j) p.bytes q.bytes a.lines ip iq a.reads
      (subst (λ z. Reads (interval_of p.plan j) q.bytes z) same b0)

-- Bytes that agree outside of pieces -------------------------------------------------------------------

-- The bytes xs stand in one file from this offset on, and ys in another. They agree before the end, outside of these pieces
abbrev pub Agree : List FoundPiece → ℕ → ℕ → List ℕ → List ℕ → Type 0
Agree ps at end xs ys = (k : ℕ) → at + k < end → ((p : FoundPiece) → Contains ps p → IsIn p (at + k) → ⊥)
    → (k < length ys) × (get_or xs k 0 ≡ get_or ys k 0)

same_front : (us xs ys : List ℕ) → ((k : ℕ) → k < length us → (k < length ys) × (get_or (us ++ xs) k 0 ≡ get_or ys k 0))
    → (zs : List ℕ) × (ys ≡ us ++ zs)
same_front [] xs ys h = (ys, refl)
same_front (u ∷ us) xs [] h = absurd (let l = (h 0 (omega arith)).0 in omega (arith, l))
same_front (u ∷ us) xs (y ∷ ys) h =
    let e : u ≡ y = (h 0 (omega arith)).1 in
    let r = same_front us xs ys (λ k l. let n = h (suc k) (omega (arith, l)) in (let n0 = n.0 in omega (arith, n0), n.1)) in
    (r.0, ap (λ z. z ∷ ys) (sym e) ∙ ap (λ z. u ∷ z) r.1)

-- bytes before all pieces are the same
pub first_bytes : (earlier : List FoundPiece) (at end : ℕ) (us xs ys : List ℕ) → Agree earlier at end (us ++ xs) ys
    → at + length us ≤ end → ((q : FoundPiece) → Contains earlier q → at + length us ≤ q.offset) → (zs : List ℕ) × (ys ≡ us ++ zs)
first_bytes earlier at end us xs ys h before beyond =
    same_front us xs ys (λ k l. h k (omega (arith, l, before)) (λ q c inside.
    let b = beyond q c in let i = inside.0 in omega (arith, b, i, l)))

pub agree_on : (ps : List FoundPiece) (at end : ℕ) (us vs xs ys : List ℕ) → length us ≡ length vs → Agree ps at end (us ++ xs) (vs ++ ys)
    → Agree ps (at + length us) end xs ys
agree_on ps at end us vs xs ys l h = λ k before outside.
    let shift : at + length us + k ≡ at + (length us + k) = omega arith in
    let n = h (length us + k) (subst (λ z. z < end) shift before)
    (λ p c inside. outside p c (subst (IsIn p) (sym shift) inside)) in
    let n0 = n.0 in let size = length-append vs ys in (
      omega (arith, n0, size, l),
      sym (get_or-append-add us xs k 0) ∙ n.1 ∙ ap (λ z. get_or (vs ++ ys) (z + k) 0) l ∙ get_or-append-add vs ys k 0,
    )

pub agree_less : (q : FoundPiece) (ps : List FoundPiece) (at end : ℕ) (xs ys : List ℕ) → q.offset + length q.bytes ≤ at
    → Agree (q ∷ ps) at end xs ys → Agree ps at end xs ys
agree_less q ps at end xs ys past h = λ k before outside. h k before (λ p c inside.
    elim (first_or_rest p q ps c) [
      | inl e ↦ (let i : IsIn q (at + k) = subst (λ z. IsIn z (at + k)) (sym e) inside in let i1 = i.1 in omega (arith, i1, past))
      | inr later ↦ outside p later inside
    ])

-- Restart markers -------------------------------------------------------------------------------------

pub one_mark : (k l c d : ℕ) (x y : List ℕ) → c ≢ 255 → d ≢ 255 → fill_bytes k ++ (255 ∷ c ∷ x) ≡ fill_bytes l ++ (255 ∷ d ∷ y)
    → (k ≡ l) × (c ≡ d) × (x ≡ y)
one_mark zero zero c d x y p q e = (refl, cc, cc)
one_mark zero (suc zero) c d x y p q e = let f : c ≡ 255 = cc in absurd (p f)
one_mark zero (suc (suc l)) c d x y p q e = let f : c ≡ 255 = cc in absurd (p f)
one_mark (suc zero) zero c d x y p q e = let f : d ≡ 255 = cc in absurd (q f)
one_mark (suc (suc k)) zero c d x y p q e = let f : d ≡ 255 = cc in absurd (q f)
one_mark (suc k) (suc l) c d x y p q e =
    let t : fill_bytes k ++ (255 ∷ c ∷ x) ≡ fill_bytes l ++ (255 ∷ d ∷ y) = cc in
    let r = one_mark k l c d x y p q t in (ap suc r.0, r.1, r.2)

-- the code of a restart marker ends no scan data and begins no segment
pub of_mark : (m : ℕ) → m < 8 → (ends_scan_data (208 + m) ≡ false) × (has_segment (208 + m) ≡ false)
unfolding has_segment
of_mark zero h = (refl, refl)
of_mark (suc zero) h = (refl, refl)
of_mark (suc (suc zero)) h = (refl, refl)
of_mark (suc (suc (suc zero))) h = (refl, refl)
of_mark (suc (suc (suc (suc zero)))) h = (refl, refl)
of_mark (suc (suc (suc (suc (suc zero))))) h = (refl, refl)
of_mark (suc (suc (suc (suc (suc (suc zero)))))) h = (refl, refl)
of_mark (suc (suc (suc (suc (suc (suc (suc zero))))))) h = (refl, refl)
of_mark (suc (suc (suc (suc (suc (suc (suc (suc m)))))))) h = absurd (omega arith)

-- Offsets ---------------------------------------------------------------------------------------------

pub from_offset : (index : ℕ) (s : Scan) (last : ℕ) (number : PieceNumber) (at : ℕ) (closed : List ClosedPiece) (bytes : List ℕ)
    (q : FoundPiece) → Contains (pieces_from (piece_begun index s number at) last closed bytes) q → at ≤ q.offset
from_offset index s last number at [] bytes q m =
    elim (first_or_rest q _ [] m) [
      | inl e ↦ (let o = ap (λ (p : FoundPiece). p.offset) e in omega (arith, o))
      | inr later ↦ absurd (none_in q later)
    ]
from_offset index s last number at (c ∷ closed) bytes q m =
    let next = number_after (intervals s) last c.mark in
    elim (first_or_rest q _ _ m) [
      | inl e ↦ (let o = ap (λ (p : FoundPiece). p.offset) e in omega (arith, o))
      | inr later ↦ (let l = from_offset index s (given_last last next) next (at + length (closed_bytes c)) closed bytes q later in
          omega (arith, l))
    ]
