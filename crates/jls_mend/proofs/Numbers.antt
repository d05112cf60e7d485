-- Copies under their numbers.
use Rattle.std.proofs.Common.{◌≡◌, ℕ, ◌+◌, ◌<◌, ◌≤◌, ◌^◌, Bool, true, false, List, [], ◌∷◌, ◌++◌, Some, cond, get_or, length, map}
use Rattle.std.proofs.Common.{option_map, suc, zero}
use Rattle.std.proofs.Common.{take, refl, ap, ◌∙◌, arith}
use Rattle.std.specs.Prelude.{decimal}
use Rattle.std.specs.List.{AllByRecursion, find}
use Rattle.std.specs.Str.{bytes_eq}
use Rattle.std.proofs.lemmas.Fmt.{decimal_injective}
use Rattle.std.proofs.lemmas.List.{map_push}
use Rattle.std.proofs.lemmas.Slice.Eq.{bytes_eq-Decides}
use Rattle.jls_memory.specs.Files.{File, bytes_named}
use Rattle.jls_mend.specs.Asking.{inputs_from, names_in}

-- ---- names and bytes

pub bytes_in : (k : ℕ) (copies : List (List ℕ)) → map (λ (f : File). f.bytes) (inputs_from k copies) ≡ copies
bytes_in k [] = refl
bytes_in k (copy ∷ copies) = ap (λ (cs : List (List ℕ)). copy ∷ cs) (bytes_in (k + 1) copies)

pub length_inputs : (k : ℕ) (copies : List (List ℕ)) → length (inputs_from k copies) ≡ length copies
length_inputs k [] = refl
length_inputs k (copy ∷ copies) = let n = length_inputs (k + 1) copies in omega (arith, n)

pub name_at : (k : ℕ) (copies : List (List ℕ)) (i : ℕ) → i < length copies → get_or (names_in (inputs_from k copies)) i [] ≡ decimal (k + i)
name_at k [] i h = absurd (omega (arith, h))
name_at k (copy ∷ copies) zero h = ap decimal (let e : k ≡ k + 0 = omega arith in e)
name_at k (copy ∷ copies) (suc i) h =
    let next : k + 1 + i ≡ k + suc i = omega arith in
    name_at (k + 1) copies i (omega (arith, h)) ∙ ap decimal next

-- one copy more
inputs_then : (k : ℕ) (copies : List (List ℕ)) (i : ℕ) → i < length copies
    → inputs_from k (take (suc i) copies) ≡ inputs_from k (take i copies) ++ record { name = decimal (k + i); bytes = get_or copies i [] } ∷ []
inputs_then k [] i h = absurd (omega (arith, h))
inputs_then k (copy ∷ copies) zero h =
    let e : k ≡ k + 0 = omega arith in
    ap (λ (n : ℕ). record { name = decimal n; bytes = copy } ∷ []) e
inputs_then k (copy ∷ copies) (suc i) h =
    let next : k + 1 + i ≡ k + suc i = omega arith in
    ap (λ (fs : List File). record { name = decimal k; bytes = copy } ∷ fs)
    (inputs_then (k + 1) copies i (omega (arith, h))
    ∙ ap (λ (n : ℕ). inputs_from (k + 1) (take i copies) ++ record { name = decimal n; bytes = get_or copies i [] } ∷ []) next)

pub inputs_more : (k : ℕ) (copies : List (List ℕ)) (i : ℕ) → i < length copies
    → inputs_from k (take (i + 1) copies) ≡ inputs_from k (take i copies) ++ record { name = decimal (k + i); bytes = get_or copies i [] } ∷ []
inputs_more k copies i h =
    let next : i + 1 ≡ suc i = omega arith in
    ap (λ (n : ℕ). inputs_from k (take n copies)) next ∙ inputs_then k copies i h

-- and one name more
pub names_more : (copies : List (List ℕ)) (i : ℕ) → i < length copies
    → names_in (inputs_from 1 (take (i + 1) copies)) ≡ names_in (inputs_from 1 (take i copies)) ++ decimal (i + 1) ∷ []
names_more copies i h =
    let next : 1 + i ≡ i + 1 = omega arith in
    ap names_in (inputs_more 1 copies i h)
    ∙ (map_push (λ (f : File). f.name) (inputs_from 1 (take i copies)) (record { name = decimal (1 + i); bytes = get_or copies i [] })
    ∙ ap (λ (n : ℕ). names_in (inputs_from 1 (take i copies)) ++ decimal n ∷ []) next)

-- ---- each has its own name

pub not_true : (b : Bool) → (b ≡ true → ⊥) → b ≡ false
not_true true never = absurd (never refl)
not_true false never = refl

pub apart : (a b : ℕ) → a < b → b < 2 ^ 64 → bytes_eq (decimal a) (decimal b) ≡ false
apart a b lt small = not_true (bytes_eq (decimal a) (decimal b)) (λ e.
    let same = decimal_injective a b (omega (arith, lt, small)) small ((bytes_eq-Decides (decimal a) (decimal b)).0 e) in
    omega (arith, lt, same))

-- a name is none of those of greater numbers
others : (a k : ℕ) (copies : List (List ℕ)) → a < k → k + length copies ≤ 2 ^ 64
    → AllByRecursion (λ (f : File). bytes_eq (decimal a) f.name ≡ false) (inputs_from k copies)
others a k [] lt small = tt
others a k (copy ∷ copies) lt small = (
  apart a k lt (omega (arith, small)),
  others a (k + 1) copies (omega (arith, lt)) (omega (arith, small)),
)

pub own_first : (name : List ℕ) (f : File) (files : List File) → bytes_eq f.name name ≡ true → bytes_named name (f ∷ files) ≡ Some f.bytes
own_first name f files e =
    ap (λ (b : Bool). option_map (λ (f : File). f.bytes) (cond b (Some f) (find (λ (f : File). bytes_eq f.name name) files))) e

other_first : (name : List ℕ) (f : File) (files : List File) → bytes_eq f.name name ≡ false
    → bytes_named name (f ∷ files) ≡ bytes_named name files
other_first name f files e =
    ap (λ (b : Bool). option_map (λ (f : File). f.bytes) (cond b (Some f) (find (λ (f : File). bytes_eq f.name name) files))) e

-- a file of another name first
pub behind : (first : File) (all files : List File) → AllByRecursion (λ (f : File). bytes_eq first.name f.name ≡ false) files
    → AllByRecursion (λ (f : File). bytes_named f.name all ≡ Some f.bytes) files
    → AllByRecursion (λ (f : File). bytes_named f.name (first ∷ all) ≡ Some f.bytes) files
behind first all [] others_are found = tt
behind first all (f ∷ files) others_are found =
    (other_first f.name first all others_are.0 ∙ found.0, behind first all files others_are.1 found.1)

-- each is found by its name
pub each_found : (k : ℕ) (copies : List (List ℕ)) → k + length copies ≤ 2 ^ 64
    → AllByRecursion (λ (f : File). bytes_named f.name (inputs_from k copies) ≡ Some f.bytes) (inputs_from k copies)
each_found k [] small = tt
each_found k (copy ∷ copies) small =
    let first : File = record { name = decimal k; bytes = copy } in (
      own_first (decimal k) first (inputs_from (k + 1) copies) ((bytes_eq-Decides (decimal k) (decimal k)).1 refl),
      behind first (inputs_from (k + 1) copies) (inputs_from (k + 1) copies)
          (others k (k + 1) copies (omega arith) (omega (arith, small)))
          (each_found (k + 1) copies (omega (arith, small))),
    )
