-- A file without a fault has a name, where not all names are given.
use Rattle.std.proofs.Common.{◌≡◌, ℕ, ◌+◌, ◌<◌, ◌||◌, Bool, true, false, List, [], ◌∷◌, ◌++◌, length, inl, inr, refl, sym, ap, ◌∙◌, subst}
use Rattle.std.proofs.Common.{arith}
use Rattle.std.specs.Str.{bytes_eq}
use Rattle.std.specs.List.{Contains, list_any}
use Rattle.std.proofs.lemmas.List.Elements.{Contains-append_cases}
use Rattle.std.proofs.lemmas.List.Folds.{list_any-append}
use Rattle.std.proofs.lemmas.Slice.Eq.{bytes_eq-Decides}
use Rattle.jls_copy_laws.proofs.Members.{none_in, first_or_rest}
use Rattle.jls_search.specs.Faultless.{IsFaultless}
use Rattle.jls_splice_run.proofs.Eois.{completed_once}
use Rattle.jls_splice_run.specs.Completing.{IsCompleted}
use Rattle.jls_splice_run.specs.Listing.{AreNamed, NamedFile, is_named, left_out, none_named, numbered, one_named}

-- whether an entry has these bytes
abbrev has_bytes : List ℕ → NamedFile → Bool
has_bytes file = λ entry. bytes_eq entry.bytes file

or_true : (b : Bool) → (b || true) ≡ true
or_true true = refl
or_true false = refl

module _ (named : List NamedFile) (new : NamedFile) (file : List ℕ) where
  stays_named : is_named named file ≡ true → is_named (named ++ new ∷ []) file ≡ true
  stays_named e =
      list_any-append (has_bytes file) named (new ∷ []) ∙ ap (λ (b : Bool). b || list_any (has_bytes file) (new ∷ [])) e

  last_is_named : new.bytes ≡ file → is_named (named ++ new ∷ []) file ≡ true
  last_is_named same =
      list_any-append (has_bytes file) named (new ∷ [])
      ∙ ap (λ (b : Bool). list_any (has_bytes file) named || (b || false)) ((bytes_eq-Decides new.bytes file).1 same)
      ∙ or_true (list_any (has_bytes file) named)

-- each file without a fault has one, completed, where fewer names are given than there are
pub is_named_if_few : (most : ℕ) (prefix : List ℕ) (files : List (List ℕ)) (named : List NamedFile) → AreNamed most prefix files named
    → length named < most → (file whole : List ℕ) → Contains files file → IsFaultless file → IsCompleted file whole
    → is_named named whole ≡ true
is_named_if_few most prefix _ _ none_named few file whole c f made = absurd (none_in file c)
is_named_if_few most prefix _ _ (one_named files named new bytes are faultless completed fresh room) few file whole c f made =
    let entry : NamedFile = record { name = numbered prefix (length named + 1); bytes = bytes } in
    elim (Contains-append_cases files (new ∷ []) file c) [
      | inl before ↦ stays_named named entry whole (is_named_if_few most prefix files named are room file whole before f made)
      | inr last ↦ elim (first_or_rest file new [] last) [
        | inl e ↦ last_is_named named entry whole
            (completed_once file bytes whole (subst (λ (x : List ℕ). IsCompleted x bytes) e completed) made)
        | inr none ↦ absurd (none_in file none)
      ]
    ]
is_named_if_few most prefix _ _ (left_out files named new are why) few file whole c f made =
    elim (Contains-append_cases files (new ∷ []) file c) [
      | inl before ↦ is_named_if_few most prefix files named are few file whole before f made
      | inr last ↦ elim (first_or_rest file new [] last) [
        | inl e ↦ elim (why (subst IsFaultless (sym e) f)) [
          | inl t ↦ subst (λ (x : List ℕ). is_named named x ≡ true)
              (completed_once file t.0 whole (subst (λ (x : List ℕ). IsCompleted x t.0) e t.1) made) t.2
          | inr full ↦ absurd (omega (arith, full, few))
        ]
        | inr none ↦ absurd (none_in file none)
      ]
    ]
