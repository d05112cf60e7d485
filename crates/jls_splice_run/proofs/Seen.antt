-- The single file without a fault, where two are listed at most.
use Rattle.std.proofs.Common.{◌≡◌, ℕ, ◌<◌, ◌≤◌, ◌||◌, Bool, true, false, List, [], ◌∷◌, ◌++◌, length, ◌⊎◌, inl, inr, refl, sym, ap, ◌∙◌}
use Rattle.std.proofs.Common.{subst, arith, length-append}
use Rattle.std.specs.Cmp.Lexicographic.{other_text, same_text}
use Rattle.std.specs.Str.{bytes_eq}
use Rattle.std.specs.List.{Contains}
use Rattle.std.proofs.lemmas.List.Elements.{Contains-append_left, Contains-append_right, Contains-append_cases}
use Rattle.jls_values.proofs.Lists.{is_first, none_in, first_or_rest}
use Rattle.jls_search.specs.Faultless.{IsFaultless}
use Rattle.jls_search.specs.Shapes.{NoneIsFaultless}
use Rattle.jls_splice_run.specs.Completing.{IsCompleted}
use Rattle.jls_splice_run.proofs.Eois.{completed_once}
use Rattle.jls_splice_run.specs.Listing.{AreNamed, NamedFile, is_named, left_out, named_files, none_named, one_named}
use Rattle.jls_splice_run.specs.Single.{IsOnly}
use Rattle.jls_splice_run.specs.declared.listing.NumberedFile.{NumberedFile}

-- two have none, and differ when they are completed
pub record TwoDiffer (files : List (List ℕ)) : Type 0 where
  pub file : List ℕ
  pub among : Contains files file
  pub faultless : IsFaultless file
  pub whole : List ℕ
  pub completed : IsCompleted file whole
  pub other : List ℕ
  pub other_among : Contains files other
  pub other_faultless : IsFaultless other
  pub other_whole : List ℕ
  pub other_completed : IsCompleted other other_whole
  pub differ : whole ≡ other_whole → ⊥

-- what is known of the files without a fault among these, by those listed
abbrev AreSeenSo : List (List ℕ) → List NamedFile → Type 0
AreSeenSo files [] = NoneIsFaultless files
AreSeenSo files (one ∷ []) = IsOnly files one.bytes
AreSeenSo files (one ∷ other ∷ more) = TwoDiffer files

or_nothing : (b : Bool) → (b || false) ≡ b
or_nothing true = refl
or_nothing false = refl

module _ (files : List (List ℕ)) (file : List ℕ) where
  one_of : (x : List ℕ) → Contains (files ++ file ∷ []) x → Contains files x ⊎ (file ≡ x)
  one_of x c = elim (Contains-append_cases files (file ∷ []) x c) [
    | inl h ↦ inl h
    | inr h ↦ elim (first_or_rest x file [] h) [ inl e ↦ inr e | inr none ↦ absurd (none_in x none) ]
  ]

  last : Contains (files ++ file ∷ []) file
  last = Contains-append_right files (file ∷ []) file (is_first file [])

  first_one : (whole : List ℕ) → NoneIsFaultless files → IsFaultless file → IsCompleted file whole → IsOnly (files ++ file ∷ []) whole
  first_one whole none f made = record {
    file = file;
    among = last;
    faultless = f;
    completed = made;
    alone = λ x bytes c g m. elim (one_of x c) [
      | inl before ↦ absurd (none x before g)
      | inr e ↦ completed_once file bytes whole (subst (λ (z : List ℕ). IsCompleted z bytes) (sym e) m) made
    ];
  }

  other_one : (other whole : List ℕ) → IsOnly files other → IsFaultless file → IsCompleted file whole → (other ≡ whole → ⊥)
      → TwoDiffer (files ++ file ∷ [])
  other_one other whole only f made differ = record {
    file = only.file;
    among = Contains-append_left files (file ∷ []) only.file only.among;
    faultless = only.faultless;
    whole = other;
    completed = only.completed;
    other = file;
    other_among = last;
    other_faultless = f;
    other_whole = whole;
    other_completed = made;
    differ = differ;
  }

  one_listed : (whole : List ℕ) (listed : List NamedFile) → AreSeenSo files listed → IsFaultless file → IsCompleted file whole
      → is_named listed whole ≡ false → length listed < 2 → (new : NamedFile) → new.bytes ≡ whole
      → AreSeenSo (files ++ file ∷ []) (listed ++ new ∷ [])
  one_listed whole [] none f made other few new is =
      subst (IsOnly (files ++ file ∷ [])) (sym is) (first_one whole none f made)
  one_listed whole (x ∷ []) only f made other few new is =
      other_one x.bytes whole only f made (other_text x.bytes whole (sym other ∙ or_nothing (bytes_eq x.bytes whole)))
  one_listed whole (x ∷ y ∷ more) two f made other few new is = absurd (omega (arith, few))

  one_left_out : (listed : List NamedFile) → AreSeenSo files listed
      → (IsFaultless file → ((whole : List ℕ) × IsCompleted file whole × (is_named listed whole ≡ true)) ⊎ (2 ≤ length listed))
      → AreSeenSo (files ++ file ∷ []) listed
  one_left_out [] none why = λ x c g. elim (one_of x c) [
    | inl before ↦ none x before g
    | inr e ↦ elim (why (subst IsFaultless (sym e) g)) [ inl t ↦ (let no = t.2 in absurd cc) | inr l ↦ absurd (omega (arith, l)) ]
  ]
  one_left_out (one ∷ []) only why = record {
    file = only.file;
    among = Contains-append_left files (file ∷ []) only.file only.among;
    faultless = only.faultless;
    completed = only.completed;
    alone = λ x bytes c g m. elim (one_of x c) [
      | inl before ↦ only.alone x bytes before g m
      | inr e ↦ elim (why (subst IsFaultless (sym e) g)) [
        | inl t ↦ completed_once file bytes t.0 (subst (λ (z : List ℕ). IsCompleted z bytes) (sym e) m) t.1
            ∙ sym (same_text one.bytes t.0 (sym t.2 ∙ or_nothing (bytes_eq one.bytes t.0)))
        | inr l ↦ absurd (omega (arith, l))
      ]
    ];
  }
  one_left_out (one ∷ other ∷ more) two why = record {
    file = two.file;
    among = Contains-append_left files (file ∷ []) two.file two.among;
    faultless = two.faultless;
    whole = two.whole;
    completed = two.completed;
    other = two.other;
    other_among = Contains-append_left files (file ∷ []) two.other two.other_among;
    other_faultless = two.other_faultless;
    other_whole = two.other_whole;
    other_completed = two.other_completed;
    differ = two.differ;
  }

seen_so : (prefix : List ℕ) (files : List (List ℕ)) (listed : List NamedFile) → AreNamed 2 prefix files listed → AreSeenSo files listed
seen_so prefix _ _ none_named = λ file c f. none_in file c
seen_so prefix _ _ (one_named files listed file whole are f made new few) =
    one_listed files file whole listed (seen_so prefix files listed are) f made new few _ refl
seen_so prefix _ _ (left_out files listed file are why) = one_left_out files file listed (seen_so prefix files listed are) why

module _ {prefix : List ℕ} (files : List (List ℕ)) (listed : List NumberedFile) where
  -- two that differ are not one
  pub several : 1 < length listed → AreNamed 2 prefix files (named_files listed) → (file : List ℕ) → IsOnly files file → ⊥
  several many are = by listed many (seen_so prefix files (named_files listed) are)
    where
      by : (listed : List NumberedFile) → 1 < length listed → AreSeenSo files (named_files listed) → (file : List ℕ) → IsOnly files file → ⊥
      by [] many seen file only = absurd (omega (arith, many))
      by (x ∷ []) many seen file only = absurd (omega (arith, many))
      by (x ∷ y ∷ more) many two file only =
          two.differ (only.alone two.file two.whole two.among two.faultless two.completed
          ∙ sym (only.alone two.other two.other_whole two.other_among two.other_faultless two.other_completed))

  pub none_is_single : listed ≡ [] → AreNamed 2 prefix files (named_files listed) → (file : List ℕ) → IsOnly files file → ⊥
  none_is_single is are file only =
      let none : NoneIsFaultless files = subst (λ (xs : List NumberedFile). AreSeenSo files (named_files xs)) is
      (seen_so prefix files (named_files listed) are) in
      none only.file only.among only.faultless

  -- the last of one is the only one
  pub only_one : (x : NumberedFile) (rest : List NumberedFile) → listed ≡ rest ++ x ∷ [] → length listed ≤ 1
      → AreNamed 2 prefix files (named_files listed) → IsOnly files x.bytes.items
  only_one x [] is few are =
      subst (λ (xs : List NumberedFile). AreSeenSo files (named_files xs)) is (seen_so prefix files (named_files listed) are)
  only_one x (y ∷ rest) is few are = absurd (let n = ap length is in let m = length-append rest (x ∷ []) in omega (arith, n, m, few))
