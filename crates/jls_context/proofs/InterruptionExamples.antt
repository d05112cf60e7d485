-- Cells of run interruption, computed on values that were found by hand or by another program.
use Rattle.std.proofs.Common.{◌≡◌, ℕ, Bool, true, false, List, [], ◌∷◌, map, refl}
use Rattle.std.specs.Prelude.{ℤ, pos, negsuc}
use Rattle.std.specs.List.{fold}
use Rattle.jls_values.specs.Params.{least_from}
use Rattle.jls_context.specs.declared.interruption.RunCell.{RunCell}
use Rattle.jls_context.specs.Regular.{golomb_k}
use Rattle.jls_context.specs.Interruption.{initial_run_cell, run_k, interruption_mapped, run_updated}
use Rattle.jls_context.proofs.ExampleScans.{eight_bits, one_bit}

abbrev cell : ℕ → ℕ → ℕ → RunCell
cell magnitudes occurrences negative_errors =
    record { magnitudes = magnitudes; occurrences = occurrences; negative_errors = negative_errors }

-- a cell of 8 bits and RESET 3 after these errors
abbrev after : Bool → List ℤ → RunCell
after same errors = fold (run_updated 3 same) (initial_run_cell (eight_bits 3)) errors

fresh_k : run_k true (after true []) ≡ 2
unfolding golomb_k least_from
fresh_k = refl

-- -1, 1 and -128
fresh_of_same : map (interruption_mapped true (after true [])) (negsuc 0 ∷ pos 1 ∷ negsuc 127 ∷ []) ≡ 0 ∷ 1 ∷ 254 ∷ []
unfolding golomb_k least_from
fresh_of_same = refl

fresh_of_other : interruption_mapped false (after false []) (negsuc 0) ≡ 1
unfolding golomb_k least_from
fresh_of_other = refl

one_bit_of_both : map (λ same. interruption_mapped same (initial_run_cell one_bit) (negsuc 0)) (false ∷ true ∷ []) ≡ 1 ∷ 0 ∷ []
unfolding golomb_k least_from
one_bit_of_both = refl

abbrev same_errors : List ℤ
same_errors = negsuc 0 ∷ pos 1 ∷ negsuc 4 ∷ pos 4 ∷ []

same_halved : after true same_errors ≡ cell 7 3 1
unfolding run_updated golomb_k least_from
same_halved = refl

-- A is 7 and N is 3: TEMP is 8
temp_with_odd_occurrences : run_k true (after true same_errors) ≡ 2
unfolding run_updated golomb_k least_from
temp_with_odd_occurrences = refl

-- A is 6 and N is 3: TEMP is A for RItype 0, and 7 for RItype 1
temp_of_both : map (λ same. run_k same (cell 6 3 0)) (false ∷ true ∷ []) ≡ 1 ∷ 2 ∷ []
unfolding golomb_k least_from
temp_of_both = refl

abbrev other_errors : List ℤ
other_errors = negsuc 0 ∷ pos 0 ∷ negsuc 4 ∷ pos 4 ∷ pos 0 ∷ pos 0 ∷ pos 0 ∷ pos 0 ∷ pos 0 ∷ []

other_halved : after false other_errors ≡ cell 1 2 0
unfolding run_updated golomb_k least_from
other_halved = refl

-- N is 2 and Nn is 0, so map is 1
other_at_k_0 : interruption_mapped false (after false other_errors) (pos 1) ≡ 1
unfolding run_updated golomb_k least_from
other_at_k_0 = refl

-- 2 * Nn below N, at N and above N, for errors of both signs. The numbers are those of a coder that was written from the
-- standard in another language. N is 4, and Nn is 1, 2 and 3 in turn.

-- EM of -2, -1, 1 and 2
abbrev numbers : Bool → ℕ → List (List ℕ)
numbers same magnitudes =
    map (λ negative_errors. map (interruption_mapped same (cell magnitudes 4 negative_errors)) (negsuc 1 ∷ negsuc 0 ∷ pos 1 ∷ pos 2 ∷ []))
    (1 ∷ 2 ∷ 3 ∷ [])

-- the cells after an error
abbrev later : Bool → ℤ → List RunCell
later same e = map (λ negative_errors. run_updated 64 same (cell 2 4 negative_errors) e) (1 ∷ 2 ∷ 3 ∷ [])

-- A is 2, so that k is 0 for both RItypes
k_0_of_both : map (λ same. run_k same (cell 2 4 1)) (false ∷ true ∷ []) ≡ 0 ∷ 0 ∷ []
unfolding golomb_k least_from
k_0_of_both = refl

other_numbers : numbers false 2 ≡ (4 ∷ 2 ∷ 1 ∷ 3 ∷ []) ∷ (3 ∷ 1 ∷ 2 ∷ 4 ∷ []) ∷ (3 ∷ 1 ∷ 2 ∷ 4 ∷ []) ∷ []
unfolding golomb_k least_from
other_numbers = refl

same_numbers : numbers true 2 ≡ (3 ∷ 1 ∷ 0 ∷ 2 ∷ []) ∷ (2 ∷ 0 ∷ 1 ∷ 3 ∷ []) ∷ (2 ∷ 0 ∷ 1 ∷ 3 ∷ []) ∷ []
unfolding golomb_k least_from
same_numbers = refl

other_after_minus_2 : later false (negsuc 1) ≡ cell 4 5 2 ∷ cell 4 5 3 ∷ cell 4 5 4 ∷ []
unfolding run_updated golomb_k least_from
other_after_minus_2 = refl

other_after_2 : later false (pos 2) ≡ cell 4 5 1 ∷ cell 4 5 2 ∷ cell 4 5 3 ∷ []
unfolding run_updated golomb_k least_from
other_after_2 = refl

same_after_minus_2 : later true (negsuc 1) ≡ cell 3 5 2 ∷ cell 3 5 3 ∷ cell 3 5 4 ∷ []
unfolding run_updated golomb_k least_from
same_after_minus_2 = refl

same_after_2 : later true (pos 2) ≡ cell 3 5 1 ∷ cell 3 5 2 ∷ cell 3 5 3 ∷ []
unfolding run_updated golomb_k least_from
same_after_2 = refl

-- A is 9, so that k is 2: errors below 0 have the smaller number, however many there were
other_at_k_2 : numbers false 9 ≡ (3 ∷ 1 ∷ 2 ∷ 4 ∷ []) ∷ (3 ∷ 1 ∷ 2 ∷ 4 ∷ []) ∷ (3 ∷ 1 ∷ 2 ∷ 4 ∷ []) ∷ []
unfolding golomb_k least_from
other_at_k_2 = refl

same_at_k_2 : numbers true 9 ≡ (2 ∷ 0 ∷ 1 ∷ 3 ∷ []) ∷ (2 ∷ 0 ∷ 1 ∷ 3 ∷ []) ∷ (2 ∷ 0 ∷ 1 ∷ 3 ∷ []) ∷ []
unfolding golomb_k least_from
same_at_k_2 = refl
