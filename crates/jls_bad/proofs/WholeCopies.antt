-- Copies without bad places.
use Rattle.std.proofs.Common.{◌≡◌, ℕ, ◌-◌, ◌<◌, ◌≤◌, ◌∙◌, false, cond, List, [], ◌∷◌, length, get_or, map, Option, Some, None, IfSome, slice_get, refl, ap, subst, ⊎_elim, arith}
use Rattle.std.specs.List.{AllZip, AllByRecursion}
use Rattle.std.specs.Option.{option_or}
use Rattle.std.proofs.lemmas.Grind.{same_number_lists}
use Rattle.std.proofs.lemmas.Option.{slice_get-get_or, get_or_from_slice_get}
use Rattle.std.proofs.lemmas.Bool.{cases_lt}
use Rattle.jls_bad.specs.Known.{Copy, is_bad, known_byte, first_there, byte_beside, byte_for, IsKnownCopy}
use Rattle.jls_bad.specs.WholeLaw.{IsWholeWithout, AreAsMany, AreWholeWithout}

-- a copy without bad places has its own byte at each offset
own_byte : (copies : List Copy) (copy : Copy) (offset : ℕ) → copy.places ≡ [] → offset < length copy.bytes → byte_for copies copy offset ≡ Some (get_or copy.bytes offset 0)
own_byte copies copy offset none below =
    let none_bad : is_bad copy.places offset ≡ false = ap (λ places. is_bad places offset) none in
    let own : known_byte copy offset ≡ Some (get_or copy.bytes offset 0) = ap (λ b. cond b None (slice_get copy.bytes offset)) none_bad ∙ slice_get-get_or copy.bytes offset 0 below in
    ap (λ byte. option_or byte (first_there (map (λ other. byte_beside copy other offset) copies))) own

some_is_not_none : (byte : Option ℕ) (x : ℕ) → byte ≡ Some x → byte ≡ None → ⊥
some_is_not_none byte x e f = cc

same_size : (copies : List Copy) (copy : Copy) (known : List ℕ) → IsKnownCopy copies copy known → copy.places ≡ [] → length known ≡ length copy.bytes
same_size copies copy known is none =
    let size : length known ≤ length copy.bytes = is.size in
    ⊎_elim (λ h. absurd (some_is_not_none _ _ (own_byte copies copy (length known) none h) (is.cut h))) (λ h. omega arith) (cases_lt (length known) (length copy.bytes))

at_some : (byte : Option ℕ) (x : ℕ) (other : Option ℕ) → byte ≡ Some x → IfSome byte (λ b. other ≡ Some b) → other ≡ Some x
at_some byte x other e h = let P : Option ℕ → Type 0 = λ o. IfSome o (λ b. other ≡ Some b) in subst P e h

pub whole_without : IsWholeWithout
whole_without copies copy known is none =
    let size : length known ≡ length copy.bytes = same_size copies copy known is none in
    same_number_lists known copy.bytes size (λ k h.
    get_or_from_slice_get known k (get_or copy.bytes k 0) 0 (at_some _ _ _ (own_byte copies copy k none (omega arith))
    (is.bytes k h (λ p lost. some_is_not_none _ _ (own_byte copies copy (k - 1) none (omega arith)) lost))))

as_many : {A B : Type 0} (R : A → B → Type 0) (xs : List A) (ys : List B) → AllZip R xs ys → length ys ≡ length xs
as_many R [] [] h = refl
as_many R [] (y ∷ ys) h = absurd h
as_many R (x ∷ xs) [] h = absurd h
as_many R (x ∷ xs) (y ∷ ys) h = omega (arith, as_many R xs ys h.1)

pub are_as_many : AreAsMany
are_as_many copies files h = as_many (IsKnownCopy copies) copies files h

whole_each : (all copies : List Copy) (files : List (List ℕ)) → AllZip (IsKnownCopy all) copies files → AllByRecursion (λ copy. copy.places ≡ []) copies → files ≡ map (λ copy. copy.bytes) copies
whole_each all [] [] h none = refl
whole_each all [] (file ∷ files) h none = absurd h
whole_each all (copy ∷ copies) [] h none = absurd h
whole_each all (copy ∷ copies) (file ∷ files) h none =
    ap (λ begin. begin ∷ files) (whole_without all copy file h.0 none.0) ∙ ap (λ rest. copy.bytes ∷ rest) (whole_each all copies files h.1 none.1)

pub are_whole_without : AreWholeWithout
are_whole_without copies files h none = whole_each copies copies files h none
