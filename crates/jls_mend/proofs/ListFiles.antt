-- Lists under their names, behind copies under their numbers.
use Rattle.std.proofs.Common.{◌≡◌, ℕ, ◌+◌, ◌<◌, ◌≤◌, ◌^◌, Bool, false, List, [], ◌∷◌, ◌++◌, Option, Some, None, cond, drop, length, map}
use Rattle.std.proofs.Common.{get_or, sym, suc, zero}
use Rattle.std.proofs.Common.{option_map, refl, ap, ◌∙◌, subst, arith, append_assoc}
use Rattle.std.specs.Prelude.{decimal}
use Rattle.std.specs.Option.{option_or}
use Rattle.std.specs.List.{AllByRecursion, find}
use Rattle.std.specs.Str.{bytes_eq}
use Rattle.std.specs.Str.Parse.{AllDigits}
use Rattle.std.specs.String.{string_bytes}
use Rattle.std.specs.declared.string.String.{String}
use Rattle.std.specs.declared.alloc.Global.{Global}
use Rattle.std.proofs.lemmas.Fmt.{decimal_is_IsNumeral}
use Rattle.std.proofs.lemmas.List.{get_or-map, length-map, map_push}
use Rattle.std.proofs.lemmas.List.Folds.{find-append}
use Rattle.std.proofs.lemmas.Slice.Eq.{bytes_eq-Decides}
use Rattle.std.proofs.lemmas.Str.Parse.{digit_from_value}
use Rattle.jls_io.specs.Event.{Event, opened, not_opened, gave, read_failed, created, not_created, took, write_failed}
use Rattle.jls_memory.specs.Files.{File, bytes_named}
use Rattle.jls_memory.specs.Inputs.{Reads}
use Rattle.jls_mend.specs.Asking.{BadPlaces, IsNumberOf, inputs_from, inputs_of, inputs_with, list_name, lists_from, lists_of, names_in}
use Rattle.jls_mend.specs.Asking.{places_of}
use Rattle.jls_mend.specs.declared.asking.BadPlaces.{BadPlaces as BadPlacesValue}
use Rattle.jls_mend.proofs.Numbers.{apart, behind, each_found, not_true, own_first}

-- ---- bytes and names

pub texts_in : (k : ℕ) (bad : List BadPlaces) → map (λ (f : File). f.bytes) (lists_from k bad) ≡ map (λ (l : BadPlaces). l.text) bad
texts_in k [] = refl
texts_in k (l ∷ bad) = ap (λ (ts : List (List ℕ)). l.text ∷ ts) (texts_in (k + 1) bad)

pub length_lists : (k : ℕ) (bad : List BadPlaces) → length (names_in (lists_from k bad)) ≡ length bad
length_lists k [] = refl
length_lists k (l ∷ bad) = let n = length_lists (k + 1) bad in omega (arith, n)

list_name_at : (k : ℕ) (bad : List BadPlaces) (i : ℕ) → i < length bad → get_or (names_in (lists_from k bad)) i [] ≡ list_name (k + i)
list_name_at k [] i h = absurd (omega (arith, h))
list_name_at k (l ∷ bad) zero h = ap list_name (let e : k ≡ k + 0 = omega arith in e)
list_name_at k (l ∷ bad) (suc i) h =
    let next : k + 1 + i ≡ k + suc i = omega arith in
    list_name_at (k + 1) bad i (omega (arith, h)) ∙ ap list_name next

-- ---- each list has its own name

-- a list is none of those of greater numbers
other_lists : (a k : ℕ) (bad : List BadPlaces) → a < k → k + length bad ≤ 2 ^ 64
    → AllByRecursion (λ (f : File). bytes_eq (list_name a) f.name ≡ false) (lists_from k bad)
other_lists a k [] lt small = tt
other_lists a k (l ∷ bad) lt small = (
  apart a k lt (omega (arith, small)),
  other_lists a (k + 1) bad (omega (arith, lt)) (omega (arith, small)),
)

each_list_found : (k : ℕ) (bad : List BadPlaces) → k + length bad ≤ 2 ^ 64
    → AllByRecursion (λ (f : File). bytes_named f.name (lists_from k bad) ≡ Some f.bytes) (lists_from k bad)
each_list_found k [] small = tt
each_list_found k (l ∷ bad) small =
    let first : File = record { name = list_name k; bytes = l.text } in (
      own_first (list_name k) first (lists_from (k + 1) bad) ((bytes_eq-Decides (list_name k) (list_name k)).1 refl),
      behind first (lists_from (k + 1) bad) (lists_from (k + 1) bad)
          (other_lists k (k + 1) bad (omega arith) (omega (arith, small)))
          (each_list_found (k + 1) bad (omega (arith, small))),
    )

-- and none of a copy
no_number : (k j : ℕ) → k < 2 ^ 64 → bytes_eq (decimal k) (list_name j) ≡ false
no_number k j small = not_true (bytes_eq (decimal k) (list_name j)) (λ e.
    let same : decimal k ≡ list_name j = (bytes_eq-Decides (decimal k) (list_name j)).0 e in
    let range = digit_from_value 66 (subst (AllDigits 10) same (decimal_is_IsNumeral k small).0.1).0 in
    omega (arith, range))

none_numbered : (k j : ℕ) (copies : List (List ℕ)) → k + length copies ≤ 2 ^ 64
    → find (λ (f : File). bytes_eq f.name (list_name j)) (inputs_from k copies) ≡ None
none_numbered k j [] small = refl
none_numbered k j (copy ∷ copies) small =
    ap (λ (b : Bool). cond b (Some (record { name = decimal k; bytes = copy }))
    (find (λ (f : File). bytes_eq f.name (list_name j)) (inputs_from (k + 1) copies)))
    (no_number k j (omega (arith, small)))
    ∙ none_numbered (k + 1) j copies (omega (arith, small))

-- ---- each is found among all

some_first : (o p : Option File) (bytes : List ℕ) → option_map (λ (f : File). f.bytes) o ≡ Some bytes
    → option_map (λ (f : File). f.bytes) (option_or o p) ≡ Some bytes
some_first (Some f) p bytes e = e
some_first None p bytes e = absurd cc

found_before : (name bytes : List ℕ) (files more : List File) → bytes_named name files ≡ Some bytes → bytes_named name (files ++ more) ≡ Some bytes
found_before name bytes files more e =
    ap (λ (o : Option File). option_map (λ (f : File). f.bytes) o) (find-append (λ (f : File). bytes_eq f.name name) files more)
    ∙ some_first (find (λ (f : File). bytes_eq f.name name) files) (find (λ (f : File). bytes_eq f.name name) more) bytes e

all_found_before : (files more some : List File) → AllByRecursion (λ (f : File). bytes_named f.name files ≡ Some f.bytes) some
    → AllByRecursion (λ (f : File). bytes_named f.name (files ++ more) ≡ Some f.bytes) some
all_found_before files more [] h = tt
all_found_before files more (f ∷ some) h = (found_before f.name f.bytes files more h.0, all_found_before files more some h.1)

found_behind : (name : List ℕ) (files more : List File) → find (λ (f : File). bytes_eq f.name name) files ≡ None
    → bytes_named name (files ++ more) ≡ bytes_named name more
found_behind name files more none =
    ap (λ (o : Option File). option_map (λ (f : File). f.bytes) o)
    (find-append (λ (f : File). bytes_eq f.name name) files more
    ∙ ap (λ (o : Option File). option_or o (find (λ (f : File). bytes_eq f.name name) more)) none)

all_found_behind : (copies : List (List ℕ)) (more : List File) (k : ℕ) (bad : List BadPlaces) → 1 + length copies ≤ 2 ^ 64
    → AllByRecursion (λ (f : File). bytes_named f.name more ≡ Some f.bytes) (lists_from k bad)
    → AllByRecursion (λ (f : File). bytes_named f.name (inputs_of copies ++ more) ≡ Some f.bytes) (lists_from k bad)
all_found_behind copies more k [] small h = tt
all_found_behind copies more k (l ∷ bad) small h = (
  found_behind (list_name k) (inputs_of copies) more (none_numbered 1 k copies small) ∙ h.0,
  all_found_behind copies more (k + 1) bad small h.1,
)

module _ (copies : List (List ℕ)) (bad : List BadPlaces) (small : length copies < 2 ^ 64) where
  pub copies_found : AllByRecursion (λ (f : File). bytes_named f.name (inputs_with copies bad) ≡ Some f.bytes) (inputs_of copies)
  copies_found = all_found_before (inputs_of copies) (lists_of bad) (inputs_of copies) (each_found 1 copies (omega (arith, small)))

  pub lists_found : length bad < 2 ^ 64
      → AllByRecursion (λ (f : File). bytes_named f.name (inputs_with copies bad) ≡ Some f.bytes) (lists_of bad)
  lists_found few = all_found_behind copies (lists_of bad) 1 bad (omega (arith, small)) (each_list_found 1 bad (omega (arith, few)))

-- ---- what comes behind reads

pub reads_behind : (inputs : List File) (left rest : List ℕ) (before more : List Event) → Reads inputs left rest (before ++ more)
    → (mid : List ℕ) × Reads inputs mid rest more
reads_behind inputs left rest [] more h = (left, h)
reads_behind inputs left rest (opened name ∷ before) more h = reads_behind inputs h.0 rest before more h.2
reads_behind inputs left rest (not_opened name ∷ before) more h = reads_behind inputs left rest before more h.1
reads_behind inputs left rest (gave room bytes ∷ before) more h = reads_behind inputs (drop room left) rest before more h.1
reads_behind inputs left rest (read_failed ∷ before) more h = absurd h
reads_behind inputs left rest (created name ∷ before) more h = reads_behind inputs left rest before more h
reads_behind inputs left rest (not_created name ∷ before) more h = reads_behind inputs left rest before more h
reads_behind inputs left rest (took bytes ∷ before) more h = reads_behind inputs left rest before more h
reads_behind inputs left rest (write_failed ∷ before) more h = reads_behind inputs left rest before more h

-- ---- one more of those that are mapped

pub pushed : {X Y : Type 0} (f : X → Y) (xs : List X) (x : X) (next : Y) (ys all : List Y) → f x ≡ next → map f xs ++ next ∷ ys ≡ all
    → map f (xs ++ x ∷ []) ++ ys ≡ all
pushed f xs x next ys all is e =
    ap (λ zs. zs ++ ys) (map_push f xs x)
    ∙ (append_assoc (map f xs) (f x ∷ []) ys ∙ (ap (λ y. map f xs ++ y ∷ ys) is ∙ e))

-- ---- each of them

all_at : {X : Type 0} (P : X → Type 0) (xs : List X) (i : ℕ) (d : X) → i < length xs → AllByRecursion P xs → P (get_or xs i d)
all_at P [] i d h all = absurd (omega (arith, h))
all_at P (x ∷ xs) zero d h all = all.0
all_at P (x ∷ xs) (suc i) d h all = all_at P xs i d (omega (arith, h)) all.1

module _ (bad : List BadPlacesValue) (i : ℕ) (within : i < length bad) where
  pub list_at : (P : BadPlaces → Type 0) (d : BadPlacesValue) → AllByRecursion P (map places_of bad) → P (places_of (get_or bad i d))
  list_at P d all =
      let n = length-map bad places_of in
      subst P (get_or-map places_of bad i d (places_of d) within)
      (all_at P (map places_of bad) i (places_of d) (omega (arith, n, within)) all)

  module _ (names : List (String Global)) (are : map string_bytes names ≡ names_in (lists_of (map places_of bad))) where
    pub in_lists : i < length names
    in_lists =
        let a = length-map names string_bytes in
        let b : length (map string_bytes names) ≡ length (names_in (lists_of (map places_of bad))) = ap length are in
        let c = length_lists 1 (map places_of bad) in
        let n = length-map bad places_of in
        omega (arith, a, b, c, n, within)

    pub list_named : (d : String Global) → string_bytes (get_or names i d) ≡ list_name (i + 1)
    list_named d =
        let n = length-map bad places_of in
        let next : 1 + i ≡ i + 1 = omega arith in
        sym (get_or-map string_bytes names i d [] in_lists)
        ∙ (ap (λ (ns : List (List ℕ)). get_or ns i []) are
        ∙ (list_name_at 1 (map places_of bad) i (omega (arith, n, within)) ∙ ap list_name next))

pub numbers_taken : (count : ℕ) (bad : List BadPlaces) → AllByRecursion (λ (l : BadPlaces). IsNumberOf count l.copy) bad
    → AllByRecursion (λ (l : BadPlaces). l.copy < 4294967295) bad
numbers_taken count [] all = tt
numbers_taken count (l ∷ bad) all = (all.0.taken, numbers_taken count bad all.1)
