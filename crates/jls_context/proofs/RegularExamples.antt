-- Cells of regular mode, computed on values that were found by hand or by another program.
use Rattle.std.proofs.Common.{◌≡◌, ℕ, List, [], ◌∷◌, map, refl}
use Rattle.std.specs.Prelude.{ℤ, pos, negsuc}
use Rattle.std.specs.List.{fold}
use Rattle.jls_values.specs.Params.{least_from}
use Rattle.jls_context.specs.declared.regular.Cell.{Cell}
use Rattle.jls_context.specs.Regular.{golomb_k, initial_magnitudes, initial_cell, regular_k, regular_mapped, updated}
use Rattle.jls_context.proofs.ExampleScans.{eight_bits, one_bit}

abbrev cell : ℕ → ℕ → ℤ → ℤ → Cell
cell magnitudes occurrences bias correction =
    record { magnitudes = magnitudes; occurrences = occurrences; bias = bias; correction = correction }

-- a cell of 8 bits after these errors
abbrev after : ℕ → List ℤ → Cell
after reset errors = fold (updated reset) (initial_cell (eight_bits reset)) errors

-- floor((RANGE + 32) / 64), but at least 2: RANGE is 256, 160, 159 and 2
first_magnitudes : map (λ maxval. initial_magnitudes (record one_bit { maxval = maxval })) (255 ∷ 159 ∷ 158 ∷ 1 ∷ []) ≡ 4 ∷ 3 ∷ 2 ∷ 2 ∷ []
first_magnitudes = refl

fresh_k : regular_k (after 64 []) ≡ 2
unfolding golomb_k least_from
fresh_k = refl

fresh_mapped : regular_mapped (after 64 []) (negsuc 17) ≡ 35
unfolding golomb_k least_from
fresh_mapped = refl

one_bit_mapped : regular_mapped (initial_cell one_bit) (negsuc 0) ≡ 1
unfolding golomb_k least_from
one_bit_mapped = refl

error_of_minus_18 : after 64 (negsuc 17 ∷ []) ≡ cell 22 2 (negsuc 0) (negsuc 0)
unfolding updated
error_of_minus_18 = refl

k_after_minus_18 : regular_k (after 64 (negsuc 17 ∷ [])) ≡ 4
unfolding updated golomb_k least_from
k_after_minus_18 = refl

-- N is 2 and B is -2: a B of -N is below its range
bias_at_its_bound : after 64 (negsuc 1 ∷ []) ≡ cell 6 2 (pos 0) (negsuc 0)
unfolding updated
bias_at_its_bound = refl

abbrev thrice_8 : List ℤ
thrice_8 = pos 8 ∷ pos 8 ∷ pos 8 ∷ pos 0 ∷ pos 0 ∷ []

halved_at_3 : after 3 thrice_8 ≡ cell 7 2 (pos 0) (pos 3)
unfolding updated
halved_at_3 = refl

k_halved_at_3_and_not_at_64 : map (λ reset. regular_k (after reset thrice_8)) (3 ∷ 64 ∷ []) ≡ 2 ∷ 3 ∷ []
unfolding updated golomb_k least_from
k_halved_at_3_and_not_at_64 = refl

halved_below_zero : after 3 (negsuc 6 ∷ negsuc 8 ∷ pos 3 ∷ negsuc 4 ∷ pos 2 ∷ []) ≡ cell 9 2 (pos 0) (negsuc 2)
unfolding updated
halved_below_zero = refl

-- k is 0, N is 2 and B is -1
special_mapping : regular_mapped (after 3 (negsuc 6 ∷ negsuc 8 ∷ pos 3 ∷ negsuc 4 ∷ pos 2 ∷ negsuc 0 ∷ pos 0 ∷ pos 0 ∷ pos 0 ∷ []))
    (negsuc 1)
    ≡ 2
unfolding updated golomb_k least_from
special_mapping = refl

correction_stays_at_127 : updated 64 (cell 9 5 (pos 0) (pos 127)) (pos 127) ≡ cell 136 6 (pos 0) (pos 127)
unfolding updated
correction_stays_at_127 = refl

correction_stays_at_minus_128 : updated 64 (cell 9 5 (pos 0) (negsuc 127)) (negsuc 127) ≡ cell 137 6 (negsuc 4) (negsuc 127)
unfolding updated
correction_stays_at_minus_128 = refl
