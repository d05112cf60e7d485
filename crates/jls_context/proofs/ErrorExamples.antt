-- Predictions, errors and their numbers, computed on values that were found by hand or by another program.
use Rattle.std.proofs.Common.{◌≡◌, true, false, [], ◌∷◌, map, refl}
use Rattle.std.specs.Prelude.{pos, negsuc}
use Rattle.jls_values.specs.Params.{CodingParameters}
use Rattle.jls_context.specs.Prediction.{edge_detecting_predictor, corrected_prediction}
use Rattle.jls_context.specs.Errors.{modulo_reduced, prediction_error, error_mapped}
use Rattle.jls_context.proofs.ExampleScans.{eight_bits, three_values}

abbrev p : CodingParameters
p = eight_bits 64

-- Rc below both, between them, and at the larger
edges : edge_detecting_predictor 68 0 0 ∷ edge_detecting_predictor 10 20 15 ∷ edge_detecting_predictor 10 20 20 ∷ [] ≡ 68 ∷ 15 ∷ 10 ∷ []
edges = refl

-- C is -1, with both signs
corrected : map (λ negative. corrected_prediction p negative (negsuc 0) 68) (false ∷ true ∷ []) ≡ 67 ∷ 69 ∷ []
unfolding corrected_prediction
corrected = refl

-- C is 5: below 0, and above MAXVAL
clamped : corrected_prediction p true (pos 5) 3 ∷ corrected_prediction p false (pos 5) 253 ∷ [] ≡ 0 ∷ 255 ∷ []
unfolding corrected_prediction
clamped = refl

-- 255, -255, 128, 127, -128 and -129
reduced : map (modulo_reduced p) (pos 255 ∷ negsuc 254 ∷ pos 128 ∷ pos 127 ∷ negsuc 127 ∷ negsuc 128 ∷ [])
    ≡ negsuc 0 ∷ pos 1 ∷ negsuc 127 ∷ pos 127 ∷ negsuc 127 ∷ pos 127 ∷ []
unfolding modulo_reduced
reduced = refl

-- where RANGE is odd
reduced_by_three : map (modulo_reduced three_values) (pos 2 ∷ pos 1 ∷ negsuc 0 ∷ negsuc 1 ∷ []) ≡ negsuc 0 ∷ pos 1 ∷ negsuc 0 ∷ pos 1 ∷ []
unfolding modulo_reduced
reduced_by_three = refl

errors_round_the_end : prediction_error p false 4 250 ∷ prediction_error p true 250 4 ∷ [] ≡ pos 10 ∷ pos 10 ∷ []
unfolding modulo_reduced
errors_round_the_end = refl

least_error_mapped : map (λ special. error_mapped special (negsuc 127)) (false ∷ true ∷ []) ≡ 255 ∷ 254 ∷ []
least_error_mapped = refl
