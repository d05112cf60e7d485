-- Two copies of six bytes, damaged in different places, by hand: which bytes at least one of them has.
use Rattle.std.proofs.Common.{◌≡◌, ℕ, true, false, List, [], ◌∷◌, get_or, refl, sym, ap, ◌∙◌, arith}
use Rattle.jls_held.specs.MendedFiles.{MendedFile}
use Rattle.std.proofs.lemmas.Bool.{true≢false}
use Rattle.jls_held.specs.Judging.{EditedCopy, FitsCopy, IsEditedTo, IsMendedOf, AreMendedOf, AreTaken, held_by_any, none, taken, left_out}

-- the file is 10, 20, 30, 40, 50, 60. The first copy lost its second byte, the second its fourth and fifth
abbrev copies : List (List ℕ)
copies = (10 ∷ 0 ∷ 30 ∷ 40 ∷ 50 ∷ 60 ∷ []) ∷ (10 ∷ 20 ∷ 30 ∷ 0 ∷ 0 ∷ 60 ∷ []) ∷ []

abbrev first : EditedCopy
first = record { number = 0; edits = record { offset = 1; count = 1; bytes = 20 ∷ [] } ∷ [] }

abbrev second : EditedCopy
second = record { number = 1; edits = record { offset = 3; count = 2; bytes = 40 ∷ 50 ∷ [] } ∷ [] }

-- the first copy again, as if it had lost its last two bytes too; so no copy of these has the second byte
abbrev shorter : EditedCopy
shorter = record {
  number = 0;
  edits = record { offset = 1; count = 1; bytes = 20 ∷ [] } ∷ record { offset = 4; count = 2; bytes = 50 ∷ 60 ∷ [] } ∷ [];
}

abbrev file : MendedFile
file = record { bytes = 10 ∷ 20 ∷ 30 ∷ 40 ∷ 50 ∷ 60 ∷ []; held = true ∷ true ∷ true ∷ true ∷ true ∷ true ∷ [] }

all_held : held_by_any copies (first ∷ second ∷ []) ≡ file.held
all_held = refl

-- a byte that neither has
one_not_held : held_by_any copies (first ∷ shorter ∷ []) ≡ true ∷ false ∷ true ∷ true ∷ true ∷ true ∷ []
one_not_held = refl

first_makes : IsEditedTo copies file.bytes first
first_makes = record { fits = record { within = omega arith; are_edits = (omega arith, omega arith) }; makes = refl }

second_makes : IsEditedTo copies file.bytes second
second_makes = record { fits = record { within = omega arith; are_edits = (omega arith, omega arith) }; makes = refl }

is_mended : IsMendedOf copies (first ∷ second ∷ []) file
is_mended = record { some_copy = omega arith; each = (first_makes, (second_makes, tt)); held_is = refl }

are_mended : AreMendedOf copies ((first ∷ second ∷ []) ∷ []) (file ∷ [])
are_mended = (is_mended, tt)

-- no file is mended of the copies if one is left as it is: their bytes differ
abbrev apart : List EditedCopy
apart = first ∷ record { number = 1; edits = [] } ∷ []

not_mended : (f : MendedFile) → IsMendedOf copies apart f → ⊥
not_mended f m =
    let fourth = ap (λ bytes. get_or bytes 3 0) (m.each.0.makes ∙ sym m.each.1.0.makes) in omega (arith, fourth)

are_taken : AreTaken copies (apart ∷ (first ∷ second ∷ []) ∷ []) ((first ∷ second ∷ []) ∷ [])
are_taken = left_out apart not_mended _ _ (taken (first ∷ second ∷ []) file is_mended [] [] none)

-- the first copy alone, or with less of itself, hasn't all bytes
not_all_held : IsMendedOf copies (first ∷ shorter ∷ []) file → ⊥
not_all_held m = true≢false (ap (λ held. get_or held 1 false) m.held_is)

-- there is no third copy
not_there : FitsCopy copies (record { number = 2; edits = [] }) → ⊥
not_there f = let e = f.within in omega (arith, e)

-- an edit that ends behind its copy
too_long : FitsCopy copies (record { number = 0; edits = record { offset = 5; count = 2; bytes = [] } ∷ [] }) → ⊥
too_long f = let e = f.are_edits.1 in omega (arith, e)

-- the second edit begins inside the first
overlapping : FitsCopy copies
    (record { number = 0; edits = record { offset = 1; count = 2; bytes = [] } ∷ record { offset = 2; count = 1; bytes = [] } ∷ [] }) → ⊥
overlapping f = let e = f.are_edits.1.0 in omega (arith, e)

-- no copy makes no file
none_mended : (f : MendedFile) → IsMendedOf copies [] f → ⊥
none_mended f m = let e = m.some_copy in omega (arith, e)

-- a proposal of which a file is mended is taken
not_left_out : AreTaken copies ((first ∷ second ∷ []) ∷ []) [] → ⊥
not_left_out (left_out _ none_is _ _ _) = none_is file is_mended
