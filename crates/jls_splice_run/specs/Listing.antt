-- The files without a fault, completed by EOI, each once, with the names that they get.
use Rattle.std.specs.Prelude.{◌≡◌, ◌<◌, ◌≤◌, ◌+◌, ◌⊎◌, ℕ, Bool, true, false, List, [], ◌∷◌, ◌++◌, Option, Some, None, codes, decimal}
use Rattle.std.specs.Prelude.{length, map}
use Rattle.std.specs.List.{AllZip, list_any}
use Rattle.std.specs.Str.{bytes_eq}
use Rattle.std.specs.String.{string_bytes}
use Rattle.jls_search.specs.Faultless.{IsFaultless}
use Rattle.jls_splice_run.specs.Completing.{IsCompleted}
use Rattle.jls_splice_run.specs.declared.listing.NumberedFile.{NumberedFile}

-- the name of an output that has a number: what it begins with, `-`, and the number
abbrev pub numbered : List ℕ → ℕ → List ℕ
numbered prefix number = prefix ++ (codes "-" ++ decimal number)

-- it is one of those that outputs can have
abbrev pub IsNumbered : List ℕ → List ℕ → Type 0
IsNumbered prefix name = (number : ℕ) × (0 < number) × (number ≤ 64) × (name ≡ numbered prefix number)

-- a file and the name that it gets
pub record NamedFile : Type 0 where
  pub name : List ℕ
  pub bytes : List ℕ

-- whether a file is among those that have a name
abbrev pub is_named : List NamedFile → List ℕ → Bool
is_named named file = list_any (λ n. bytes_eq n.bytes file) named

-- Of some files these have a name: each without a fault, completed by EOI, once, in their order, until so many have one. Files that are
-- equal when they are completed are one. Their numbers begin at 1
pub data AreNamed (most : ℕ) (prefix : List ℕ) : List (List ℕ) → List NamedFile → Type 0 where
  none_named : AreNamed most prefix [] []
  one_named : (files : List (List ℕ)) (named : List NamedFile) (file whole : List ℕ) → AreNamed most prefix files named
      → IsFaultless file → IsCompleted file whole → is_named named whole ≡ false → length named < most
      → AreNamed most prefix (files ++ file ∷ []) (named ++ record { name = numbered prefix (length named + 1); bytes = whole } ∷ [])
  left_out : (files : List (List ℕ)) (named : List NamedFile) (file : List ℕ) → AreNamed most prefix files named
      → (IsFaultless file → ((whole : List ℕ) × IsCompleted file whole × (is_named named whole ≡ true)) ⊎ (most ≤ length named))
      → AreNamed most prefix (files ++ file ∷ []) named

-- these have a name if that is asked for, 64 at most, and else none
abbrev pub AreNamedAsked : Option (List ℕ) → List (List ℕ) → List NamedFile → Type 0
AreNamedAsked None files named = named ≡ []
AreNamedAsked (Some prefix) files named = AreNamed 64 prefix files named

-- what the names begin with, if they are asked for
abbrev pub prefix_in : Option (List ℕ) → List ℕ
prefix_in None = []
prefix_in (Some prefix) = prefix

-- each file completed by EOI, under its name
abbrev pub AreCompleted : List NamedFile → List NamedFile → Type 0
AreCompleted files wholes = AllZip (λ file whole. (whole.name ≡ file.name) × IsCompleted file.bytes whole.bytes) files wholes

-- a file and its name, as the code holds them
abbrev pub named_file : NumberedFile → NamedFile
named_file f = record { name = string_bytes f.name; bytes = f.bytes.items }

-- files and their names, as the code holds them
abbrev pub named_files : List NumberedFile → List NamedFile
named_files files = map named_file files
