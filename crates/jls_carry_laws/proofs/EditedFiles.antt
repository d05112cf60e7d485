-- What edits leave of a copy stands in each file that the same edits make with other bytes.
use Rattle.std.proofs.Common.{◌≡◌, ℕ, zero, suc, ◌+◌, ◌-◌, Bool, true, false, List, [], ◌∷◌, ◌++◌, length, take, drop, refl, sym, ap}
use Rattle.std.proofs.Common.{◌∙◌, subst, arith, length-append, replicate, get_or}
use Rattle.std.proofs.lemmas.Bool.{false≢true}
use Rattle.jls_held.specs.Edits.{Edit, edited, AreRefilled, held_by_either}
use Rattle.jls_carry_laws.specs.Laws.{RefilledEditsKeepHeldBytes, BytesAreHeldByEither}

-- the bytes xs and ys are the same where the marks say so
abbrev SameAt : List Bool → List ℕ → List ℕ → Type 0
SameAt ms xs ys = (k : ℕ) → get_or ms k false ≡ true → get_or xs k 0 ≡ get_or ys k 0

same_all : (ms : List Bool) (xs : List ℕ) → SameAt ms xs xs
same_all ms xs = λ k m. refl

-- after bytes of the copy's own
after_own : (own : List ℕ) (ms : List Bool) (xs ys : List ℕ) → SameAt ms xs ys
    → (k : ℕ) → get_or (replicate (length own) true ++ ms) k false ≡ true → get_or (own ++ xs) k 0 ≡ get_or (own ++ ys) k 0
after_own [] ms xs ys h k m = h k m
after_own (x ∷ own) ms xs ys h zero m = refl
after_own (x ∷ own) ms xs ys h (suc k) m = after_own own ms xs ys h k m

-- after as many other bytes
after_fresh : (fresh others : List ℕ) (ms : List Bool) (xs ys : List ℕ) → length fresh ≡ length others → SameAt ms xs ys
    → (k : ℕ) → get_or (replicate (length fresh) false ++ ms) k false ≡ true → get_or (fresh ++ xs) k 0 ≡ get_or (others ++ ys) k 0
after_fresh [] [] ms xs ys l h k m = h k m
after_fresh [] (y ∷ others) ms xs ys l h k m = absurd (omega (arith, l))
after_fresh (x ∷ fresh) [] ms xs ys l h k m = absurd (omega (arith, l))
after_fresh (x ∷ fresh) (y ∷ others) ms xs ys l h zero m = absurd (false≢true m)
after_fresh (x ∷ fresh) (y ∷ others) ms xs ys l h (suc k) m = after_fresh fresh others ms xs ys (omega (arith, l)) h k m

refilled : (at : ℕ) (copy : List ℕ) (edits truth : List Edit) → AreRefilled edits truth
    → SameAt (edited at copy edits).held (edited at copy edits).bytes (edited at copy truth).bytes
    × (length (edited at copy edits).bytes ≡ length (edited at copy truth).bytes)
refilled at copy [] [] r = (same_all (replicate (length copy) true) copy, refl)
refilled at copy [] (f ∷ truth) r = absurd r
refilled at copy (e ∷ edits) [] r = absurd r
refilled at copy (e ∷ edits) (f ∷ truth) r =
    let own = take (e.offset - at) copy in
    let next = e.offset + e.count in let left = drop (e.offset - at + e.count) copy in
    let h = refilled next left edits truth r.3 in
    let mine = edited next left edits in let theirs = edited next left truth in
    let same = after_own own (replicate (length e.bytes) false ++ mine.held) (e.bytes ++ mine.bytes) (f.bytes ++ theirs.bytes)
    (after_fresh e.bytes f.bytes mine.held mine.bytes theirs.bytes r.2 h.0) in
    let l1 = length-append own (e.bytes ++ mine.bytes) in let l2 = length-append e.bytes mine.bytes in
    let l3 = length-append own (f.bytes ++ theirs.bytes) in let l4 = length-append f.bytes theirs.bytes in
    let l5 = r.2 in let l6 = h.1 in
    let file_is : (take (f.offset - at) copy ++ (f.bytes ++ (edited (f.offset + f.count) (drop (f.offset - at + f.count) copy) truth).bytes))
    ≡ own ++ (f.bytes ++ theirs.bytes) =
    ap (λ o. take (o - at) copy ++ (f.bytes ++ (edited (o + f.count) (drop (o - at + f.count) copy) truth).bytes)) (sym r.0)
    ∙ ap (λ n. own ++ (f.bytes ++ (edited (e.offset + n) (drop (e.offset - at + n) copy) truth).bytes)) (sym r.1) in (
      subst (SameAt (replicate (length own) true ++ (replicate (length e.bytes) false ++ mine.held)) (own ++ (e.bytes ++ mine.bytes)))
          (sym file_is) same,
      subst (λ z. length (own ++ (e.bytes ++ mine.bytes)) ≡ length z) (sym file_is) (omega (arith, l1, l2, l3, l4, l5, l6)),
    )

pub refilled_edits_keep : RefilledEditsKeepHeldBytes
refilled_edits_keep copy edits truth r = refilled 0 copy edits truth r

either_holds : (P : Type 0) (ms ns : List Bool) (k : ℕ) → get_or (held_by_either ms ns) k false ≡ true
    → (get_or ms k false ≡ true → P) → (get_or ns k false ≡ true → P) → P
either_holds P [] ns k e h j = j e
either_holds P (m ∷ ms) [] k e h j = h e
either_holds P (true ∷ ms) (n ∷ ns) zero e h j = h refl
either_holds P (false ∷ ms) (n ∷ ns) zero e h j = j e
either_holds P (m ∷ ms) (n ∷ ns) (suc k) e h j = either_holds P ms ns k e h j

pub bytes_are_held_by_either : BytesAreHeldByEither
bytes_are_held_by_either bytes truth ms ns h j = λ k e. either_holds (get_or bytes k 0 ≡ get_or truth k 0) ms ns k e (h k) (j k)
