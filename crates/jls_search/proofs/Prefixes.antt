-- The prefix of the first choices, and of one more.
use Rattle.std.proofs.Common.{◌≡◌, ℕ, zero, suc, ◌+◌, ◌<◌, ◌≤◌, List, [], ◌∷◌, ◌++◌, length, take, Option, Some, None, Result, Ok, Err}
use Rattle.std.proofs.Common.{refl, sym, ap, ◌∙◌, subst, append_assoc, arith, length-append}
use Rattle.std.specs.Prelude.{get_or, IfSome, OnOk}
use Rattle.std.specs.List.{AllByRecursion}
use Rattle.std.proofs.lemmas.List.{append-nil}
use Rattle.jls_copy.specs.ReadCopy.{after}
use Rattle.jls_diff.specs.Parts.{Part, Same, way}
use Rattle.jls_search.specs.Choices.{IsPath, prefix_of}
use Rattle.jls_search.specs.Faultless.{IsDead}

-- what holds anyway
pub on_ok : {T E : Type 0} (r : Result T E) (P : Type 0) → P → OnOk r P
on_ok (Ok x) P h = h
on_ok (Err e) P h = tt

bytes_append : (xs ys : List ℕ) → AllByRecursion (λ b. b < 256) xs → AllByRecursion (λ b. b < 256) ys
    → AllByRecursion (λ b. b < 256) (xs ++ ys)
bytes_append [] ys h j = j
bytes_append (x ∷ xs) ys h j = (h.0, bytes_append xs ys h.1 j)

-- what begins with a dead prefix is dead
pub dead_longer : (Sought : List ℕ → Type 0) (prefix rest : List ℕ) → IsDead Sought prefix → IsDead Sought (prefix ++ rest)
dead_longer Sought prefix rest dead more low sought =
    let e = append_assoc prefix rest more in dead (rest ++ more) (subst (AllByRecursion (λ b. b < 256)) e low) (subst Sought e sought)

pub prefix_more : (ps : List Part) (cs : List ℕ) (i : ℕ) → IsPath ps cs → i < length cs
    → prefix_of ps (take (suc i) cs) ≡ prefix_of ps (take i cs) ++ way (get_or cs i 0) (get_or ps i (Same []))
prefix_more ps [] i h l = absurd (omega (arith, l))
prefix_more [] (c ∷ cs) i h l = absurd h
prefix_more (p ∷ ps) (c ∷ cs) zero h l = append-nil (way c p)
prefix_more (p ∷ ps) (c ∷ cs) (suc i) h l =
    ap (λ z. way c p ++ z) (prefix_more ps cs i h.1 (omega (arith, l)))
    ∙ sym (append_assoc (way c p) (prefix_of ps (take i cs)) (way (get_or cs i 0) (get_or ps i (Same []))))

-- one choice more
pub prefix_one_more : (ps : List Part) (cs : List ℕ) (i : ℕ) (file bytes : List ℕ) → IsPath ps cs → i < length cs
    → file ≡ prefix_of ps (take i cs) → bytes ≡ way (get_or cs i 0) (get_or ps i (Same [])) → file ++ bytes ≡ prefix_of ps (take (i + 1) cs)
prefix_one_more ps cs i file bytes path l is here =
    let e : i + 1 ≡ suc i = omega arith in
    rw e (ap (λ z. z ++ bytes) is ∙ ap (λ z. prefix_of ps (take i cs) ++ z) here ∙ sym (prefix_more ps cs i path l))

pub prefix_at_most : (ps : List Part) (cs : List ℕ) (i : ℕ) → IsPath ps cs → length (prefix_of ps (take i cs)) ≤ length (prefix_of ps cs)
prefix_at_most ps cs zero h = omega arith
prefix_at_most ps [] (suc i) h = omega arith
prefix_at_most [] (c ∷ cs) (suc i) h = absurd h
prefix_at_most (p ∷ ps) (c ∷ cs) (suc i) h =
    let r = prefix_at_most ps cs i h.1 in
    let a = length-append (way c p) (prefix_of ps (take i cs)) in
    let b = length-append (way c p) (prefix_of ps cs) in
    omega (arith, r, a, b)

pub after_then : (fed : Option (List ℕ)) (xs ys : List ℕ) → after (after fed xs) ys ≡ after fed (xs ++ ys)
after_then None xs ys = refl
after_then (Some bytes) xs ys = ap Some (append_assoc bytes xs ys)

module _ (start reader : Option (List ℕ)) (ps : List Part) (cs : List ℕ) (at : ℕ) (bytes : List ℕ) (path : IsPath ps cs)
    (l : at < length cs) (fed : way (get_or cs at 0) (get_or ps at (Same [])) ≡ bytes)
    (is : reader ≡ after start (prefix_of ps (take at cs)))
  where
    more_is : prefix_of ps (take (at + 1) cs) ≡ prefix_of ps (take at cs) ++ bytes
    more_is =
        let e : at + 1 ≡ suc at = omega arith in
        rw e (prefix_more ps cs at path l ∙ ap (λ z. prefix_of ps (take at cs) ++ z) fed)

    -- what is fed then
    pub fed_more : after reader bytes ≡ after start (prefix_of ps (take (at + 1) cs))
    fed_more = ap (λ r. after r bytes) is ∙ after_then start (prefix_of ps (take at cs)) bytes ∙ ap (after start) (sym more_is)

    -- and it is all bytes
    pub bytes_more : AllByRecursion (λ b. b < 256) (prefix_of ps (take at cs)) → AllByRecursion (λ b. b < 256) bytes
        → AllByRecursion (λ b. b < 256) (prefix_of ps (take (at + 1) cs))
    bytes_more h low = subst (AllByRecursion (λ b. b < 256)) (sym more_is) (bytes_append (prefix_of ps (take at cs)) bytes h low)

    -- and there is room for it
    pub room : (most : ℕ) → IfSome start (λ before. length before + length (prefix_of ps cs) ≤ most)
        → IfSome reader (λ before. length before + length bytes ≤ most)
    room most h = subst (λ o. IfSome o (λ before. length before + length bytes ≤ most)) (sym is) (by start h)
      where
        by : (o : Option (List ℕ)) → IfSome o (λ before. length before + length (prefix_of ps cs) ≤ most)
            → IfSome (after o (prefix_of ps (take at cs))) (λ before. length before + length bytes ≤ most)
        by None h = tt
        by (Some before) h =
            let a = length-append before (prefix_of ps (take at cs)) in
            let b = ap length more_is ∙ length-append (prefix_of ps (take at cs)) bytes in
            let n = prefix_at_most ps cs (at + 1) path in
            omega (arith, a, b, n, h)

-- a new reader
pub room_at_first : (reader : Option (List ℕ)) (prefix : List ℕ) (most : ℕ) → reader ≡ Some [] → length prefix ≤ most
    → IfSome reader (λ before. length before + length prefix ≤ most)
room_at_first reader prefix most e l = subst (λ o. IfSome o (λ before. length before + length prefix ≤ most)) (sym e) (omega (arith, l))

pub fed_first : (reader old : Option (List ℕ)) (prefix : List ℕ) → old ≡ Some [] → reader ≡ after old prefix → reader ≡ Some prefix
fed_first reader old prefix e is = is ∙ ap (λ o. after o prefix) e

pub of_some : (reader : Option (List ℕ)) (prefix : List ℕ) (P : List ℕ → Type 0) → reader ≡ Some prefix → IfSome reader P → P prefix
of_some reader prefix P e h = subst (λ o. IfSome o P) e h
