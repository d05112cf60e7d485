-- Slices as the bytes that they show.
use Rattle.std.proofs.Common.{◌≡◌, ℕ, suc, List, [], ◌∷◌, length, refl, ap, Bor}
use Rattle.std.specs.Prelude.{get_or}
use Rattle.std.proofs.Math.ListN.{get_or-map}
use Rattle.jls_diff.specs.PartsOf.{bytes_of}

-- what stands after the end of slices
abbrev pub none : Bor (List ℕ)
none = record { ref_ptr = (0, 0); now = [] }

pub at_slice : (slices : List (Bor (List ℕ))) (j : ℕ) → get_or (bytes_of slices) j [] ≡ (get_or slices j none).now
at_slice slices j = get_or-map (λ (slice : Bor (List ℕ)). slice.now) slices j none

pub count_of_slices : (slices : List (Bor (List ℕ))) → length (bytes_of slices) ≡ length slices
count_of_slices [] = refl
count_of_slices (s ∷ slices) = ap suc (count_of_slices slices)
