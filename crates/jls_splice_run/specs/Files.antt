-- Files that are no copies, and files to which EOI was added.
use Rattle.std.specs.Prelude.{ℕ, Bool, true, false, ◌||◌, List, [], ◌∷◌, Option, Some, None, map, if◌then◌else◌}
use Rattle.std.specs.List.{count_by, list_any}
use Rattle.std.specs.Str.{bytes_eq}
use Rattle.jls_splice_run.specs.Listing.{NamedFile}

-- whether a file has the bytes of a copy
abbrev pub is_copy : List (List ℕ) → List ℕ → Bool
is_copy copies file = list_any (λ copy. bytes_eq copy file) copies

-- how many of the files are no copies
abbrev pub count_new : List (List ℕ) → List (List ℕ) → ℕ
count_new copies files = count_by (λ file. if is_copy copies file then false else true) files

-- whether some of these files have bytes that none of the others has
abbrev pub has_new : List (List ℕ) → List (List ℕ) → Bool
has_new others files = list_any (λ file. if is_copy others file then false else true) files

-- the file, if there is one
abbrev pub in_list : Option (List ℕ) → List (List ℕ)
in_list None = []
in_list (Some file) = file ∷ []

-- Whether EOI was added to the single file or to one that has a number. Then no file of which they were made has its bytes
abbrev pub is_eoi_added : List (List ℕ) → Option (List ℕ) → List NamedFile → Bool
is_eoi_added others single files = has_new others (in_list single) || has_new others (map (λ f. f.bytes) files)
