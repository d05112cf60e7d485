-- Files that none of others has, as the code finds them.
use Rattle.std.proofs.Common.{◌≡◌, ℕ, zero, suc, ◌<◌, ◌||◌, Bool, true, false, List, [], ◌∷◌, ◌++◌, length, get_or, map, Vec, Global, refl}
use Rattle.std.proofs.Common.{sym, ap, ◌∙◌, arith}
use Rattle.std.specs.Prelude.{if◌then◌else◌}
use Rattle.std.specs.Str.{bytes_eq}
use Rattle.std.proofs.lemmas.List.Folds.{list_any-append}
use Rattle.jls_diff.specs.Parts.{Part}
use Rattle.jls_search.specs.Choices.{prefix_of}
use Rattle.jls_search.specs.Search.{files_of, lists_of}
use Rattle.jls_splice_run.specs.Files.{has_new, is_copy}
use Rattle.jls_splice_run.specs.Listing.{NamedFile, named_files}
use Rattle.jls_splice_run.specs.declared.listing.NumberedFile.{NumberedFile}

or_true : (b : Bool) → (b || true) ≡ true
or_true true = refl
or_true false = refl

-- a file that one of some others has
pub is_copy_right : (others more : List (List ℕ)) (file : List ℕ) → is_copy more file ≡ true → is_copy (others ++ more) file ≡ true
is_copy_right others more file e =
    list_any-append (λ (copy : List ℕ). bytes_eq copy file) others more ∙ ap (λ (b : Bool). is_copy others file || b) e
    ∙ or_true (is_copy others file)

-- a splice that is one of those found
pub is_made_at : (ps : List Part) (vs : List (Vec ℕ Global)) (file : List ℕ) (i : ℕ) (v : Vec ℕ Global) → i < length vs → v ≡ get_or vs i v
    → bytes_eq (prefix_of ps v.items) file ≡ true → is_copy (files_of ps (lists_of vs)) file ≡ true
is_made_at ps [] file i v l is same = absurd (omega (arith, l))
is_made_at ps (x ∷ vs) file zero v l is same =
    ap (λ (b : Bool). b || is_copy (files_of ps (lists_of vs)) file)
    (ap (λ (y : Vec ℕ Global). bytes_eq (prefix_of ps y.items) file) (sym is) ∙ same)
is_made_at ps (x ∷ vs) file (suc i) v l is same =
    ap (λ (b : Bool). bytes_eq (prefix_of ps x.items) file || b) (is_made_at ps vs file i v (omega (arith, l)) is same)
    ∙ or_true (bytes_eq (prefix_of ps x.items) file)

-- whether files have bytes that none of others has
module _ (others : List (List ℕ)) where
  abbrev is_other : List ℕ → Bool
  is_other file = if is_copy others file then false else true

  pub new_at : (files : List NumberedFile) (i : ℕ) (f : NumberedFile) → i < length files → f ≡ get_or files i f
      → is_copy others f.bytes.items ≡ false → has_new others (map (λ (n : NamedFile). n.bytes) (named_files files)) ≡ true
  new_at [] i f l is none = absurd (omega (arith, l))
  new_at (x ∷ files) zero f l is none =
      ap (λ (b : Bool). b || has_new others (map (λ (n : NamedFile). n.bytes) (named_files files)))
      (ap (λ (y : NumberedFile). is_other y.bytes.items) (sym is) ∙ ap (λ (b : Bool). if b then false else true) none)
  new_at (x ∷ files) (suc i) f l is none =
      ap (λ (b : Bool). is_other x.bytes.items || b) (new_at files i f (omega (arith, l)) is none) ∙ or_true (is_other x.bytes.items)
