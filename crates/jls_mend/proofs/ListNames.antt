-- What the values of `--bad` say that name lists.
use Rattle.std.proofs.Common.{◌≡◌, ℕ, zero, suc, ◌+◌, ◌<◌, ◌≤◌, ◌^◌, ◌==◌, Bool, true, false, List, [], ◌∷◌, ◌++◌, Option, Some, None, cond}
use Rattle.std.proofs.Common.{length, map, refl, ap, sym, ◌∙◌, subst, arith}
use Rattle.std.specs.Prelude.{◌&&◌, codes, decimal, nat_le, nat_lt, not}
use Rattle.std.specs.List.{AllByRecursion, after_first, before_first, cons_option, position_or_len}
use Rattle.std.specs.Str.Parse.{AllDigits, digits_value, without_leading_plus, IsNumeral}
use Rattle.std.proofs.lemmas.Bool.Decides.{nat_tests}
use Rattle.std.proofs.lemmas.Fmt.{decimal_is_IsNumeral, first_decimal}
use Rattle.std.proofs.lemmas.Grind.{common_steps}
use Rattle.std.proofs.lemmas.List.{get_or_append_left, get_or_at, length-append, length-map}
use Rattle.std.proofs.lemmas.List.Sums.{position_or_len_is}
use Rattle.std.proofs.lemmas.Str.Parse.{digit_from_value, without_leading_plus_none}
use Rattle.clap.specs.ValueTests.{is_unsigned_in}
use Rattle.clap.specs.Words.{Text}
use Rattle.clap.specs.declared.builder.value_parser.ValueParser.TheVariants as vp
use Rattle.clap.proofs.CutLemmas.{Lacks, after_first-at, before_first-at}
use Rattle.clap.proofs.ValueTestLemmas.{Accepts-accepts}
use Rattle.jls_cli.specs.BadValues.{BadList, bad_list_of, bad_list_with}
use Rattle.jls_cli.specs.SpliceAsking.{Asked}
use Rattle.jls_cli.specs.Words.{number_in}
use Rattle.jls_splice_run.specs.BadLists.{list_names, lists_in}
use Rattle.jls_splice_run.specs.Runs.{bad_value_among, can_be_numbered, is_list_of, is_taken_name}
use Rattle.jls_memory.specs.Files.{File}
use Rattle.jls_mend.specs.Asking.{BadPlaces, IsNumberOf, asked_for, inputs_from, list_name, lists_from, names_in, said_from, values_from}
use Rattle.jls_mend.specs.declared.asking.MendOptions.{MendOptions}
use Rattle.jls_mend.proofs.Numbers.{length_inputs}

-- no digit is a colon
digits_lack : (ds : List ℕ) → AllDigits 10 ds → Lacks 58 ds
digits_lack [] d i h = absurd (omega (arith, h))
digits_lack (c ∷ cs) d zero h = λ e. let range = digit_from_value c d.0 in omega (arith, range, e)
digits_lack (c ∷ cs) d (suc i) h = digits_lack cs d.1 i (omega (arith, h))

module _ (n : ℕ) (some : 1 ≤ n) (most : n ≤ 4294967295) where
  small : n < 2 ^ 64
  small = omega (arith, most)

  -- a number is read as itself
  no_plus : without_leading_plus (decimal n) ≡ decimal n
  no_plus = without_leading_plus_none (decimal n) (λ e. let above = first_decimal n (omega (arith, some)) small in omega (arith, above, e))

  value_is : digits_value 10 (without_leading_plus (decimal n)) ≡ n
  value_is = ap (digits_value 10) no_plus ∙ (decimal_is_IsNumeral n small).1

  passes : is_unsigned_in 1 4294967295 (decimal n) ≡ true
  passes = Accepts-accepts false (vp.Unsigned 1 4294967295) (decimal n) (
    subst (λ (ds : List ℕ). IsNumeral 10 ds) (sym no_plus) (decimal_is_IsNumeral n small).0,
    omega (arith, value_is, small),
    omega (arith, value_is, some),
    omega (arith, value_is, most),
  )

  number_is : number_in 1 4294967295 (decimal n) ≡ Some n
  number_is =
      ap (λ (b : Bool). cond b (Some (digits_value 10 (without_leading_plus (decimal n)))) None) passes ∙ ap (λ (m : ℕ). Some m) value_is

  -- and ends where the colon stands
  colon_at : (name : Text) → position_or_len (λ byte. byte == 58) (decimal n ++ 58 ∷ name) ≡ length (decimal n)
  colon_at name =
      position_or_len_is (λ x. x == 58) (decimal n ++ 58 ∷ name) (length (decimal n)) 0 (grind (arith, common_steps))
      (λ k lt. let ne = digits_lack (decimal n) (decimal_is_IsNumeral n small).0.1 k lt in rw get_or_append_left (grind (arith, nat_tests)))
      (λ _. rw (get_or_at (decimal n) 58 name 0 (length (decimal n)) refl) refl)

  has_colon : (name : Text)
      → nat_lt (position_or_len (λ byte. byte == 58) (decimal n ++ 58 ∷ name)) (length (decimal n ++ 58 ∷ name)) ≡ true
  has_colon name =
      let at = colon_at name in
      let len = length-append (decimal n) (58 ∷ name) in
      grind (arith, nat_tests)

  -- so a value says what was put into it
  pub said : (name : Text) → bad_list_of (decimal n ++ 58 ∷ name) ≡ Some (record { copy = n; name = name })
  said name =
      let lacks = digits_lack (decimal n) (decimal_is_IsNumeral n small).0.1 in
      let value : Text = decimal n ++ 58 ∷ name in
      ap (λ (b : Bool). cond b (bad_list_with (number_in 1 4294967295 (before_first (λ byte. byte == 58) value))
      (after_first (λ byte. byte == 58) value)) None) (has_colon name)
      ∙ (ap (λ (t : Text). bad_list_with (number_in 1 4294967295 t) (after_first (λ byte. byte == 58) value)) (before_first-at 58 (decimal n) name lacks)
      ∙ (ap (λ (t : Text). bad_list_with (number_in 1 4294967295 (decimal n)) t) (after_first-at 58 (decimal n) name lacks)
      ∙ ap (λ (m : Option ℕ). bad_list_with m name) number_is))

-- ---- all values

module _ (count : ℕ) where
  abbrev Are : List BadPlaces → Type 0
  Are bad = AllByRecursion (λ (l : BadPlaces). IsNumberOf count l.copy) bad

  value_said : (k : ℕ) (l : BadPlaces) → IsNumberOf count l.copy
      → bad_list_of (decimal (l.copy + 1) ++ 58 ∷ list_name k) ≡ Some (record { copy = l.copy + 1; name = list_name k })
  value_said k l is = let taken = is.taken in said (l.copy + 1) (omega arith) (omega (arith, taken)) (list_name k)

  pub all_said : (k : ℕ) (bad : List BadPlaces) → Are bad → lists_in (values_from k bad) ≡ said_from k bad
  all_said k [] are = refl
  all_said k (l ∷ bad) are =
      ap (λ (said : Option BadList). cons_option said (lists_in (values_from (k + 1) bad))) (value_said k l are.0)
      ∙ ap (λ (ls : List BadList). record { copy = l.copy + 1; name = list_name k } ∷ ls) (all_said (k + 1) bad are.1)

  names_said : (k : ℕ) (bad : List BadPlaces) → map (λ (l : BadList). l.name) (said_from k bad) ≡ names_in (lists_from k bad)
  names_said k [] = refl
  names_said k (l ∷ bad) = ap (λ (ns : List Text). list_name k ∷ ns) (names_said (k + 1) bad)

  pub all_names : (k : ℕ) (bad : List BadPlaces) → Are bad → list_names (values_from k bad) ≡ names_in (lists_from k bad)
  all_names k bad are = ap (λ (ls : List BadList). map (λ (l : BadList). l.name) ls) (all_said k bad are) ∙ names_said k bad

-- ---- no value is refused

not_numbered : (files : Bool) (k : ℕ) → can_be_numbered (cond files (Some (codes "ALL")) None) (list_name k) ≡ false
not_numbered true k = refl
not_numbered false k = refl

module _ (o : MendOptions) (copies : List (List ℕ)) (all : List BadPlaces) where
  abbrev asked : Asked
  asked = asked_for o copies all

  not_taken : (k : ℕ) → is_taken_name asked (list_name k) ≡ false
  not_taken k = not_numbered o.files k

  is_list : (k : ℕ) (l : BadPlaces) → IsNumberOf (length copies) l.copy
      → is_list_of asked (Some (record { copy = l.copy + 1; name = list_name k })) ≡ true
  is_list k l is =
      let has = is.has in
      let a = length-map (inputs_from 1 copies) (λ (f : File). f.name) in
      let b = length_inputs 1 copies in
      let within : nat_le (l.copy + 1) (length asked.copies) ≡ true = grind (arith, nat_tests) in
      ap (λ (b : Bool). b && not (is_taken_name asked (list_name k))) within ∙ ap not (not_taken k)

  pub none_refused : (k : ℕ) (bad : List BadPlaces) → Are (length copies) bad → bad_value_among asked (values_from k bad) ≡ None
  none_refused k [] are = refl
  none_refused k (l ∷ bad) are =
      let value : Text = decimal (l.copy + 1) ++ 58 ∷ list_name k in
      ap (λ (b : Bool). cond b (bad_value_among asked (values_from (k + 1) bad)) (Some value))
      (ap (is_list_of asked) (value_said (length copies) k l are.0) ∙ is_list k l are.0)
      ∙ none_refused (k + 1) bad are.1
