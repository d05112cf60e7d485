-- Modes, contexts and quantized gradients, computed on values that were found by hand or by another program.
use Rattle.std.proofs.Common.{◌≡◌, ℕ, Bool, true, false, [], ◌∷◌, map, refl}
use Rattle.std.specs.Prelude.{pos, negsuc}
use Rattle.jls_values.specs.Params.{CodingParameters}
use Rattle.jls_context.specs.declared.mode.Neighbours.{Neighbours}
use Rattle.jls_context.specs.Mode.{is_run_mode, quantized_gradient, is_negative, context}
use Rattle.jls_context.proofs.ExampleScans.{eight_bits, one_bit, three_values, sixteen_bits}

abbrev near : ℕ → ℕ → ℕ → ℕ → Neighbours
near ra rb rc rd = record { ra = ra; rb = rb; rc = rc; rd = rd }

-- the number of the context, and whether SIGN is -1
abbrev cell_and_sign : CodingParameters → Neighbours → ℕ × Bool
cell_and_sign p n = (context p n, is_negative p n)

all_zero : is_run_mode (near 0 0 0 0) ≡ true
all_zero = refl

-- the third gradient alone; the first and the third, 81 * 4 - 4; the second decides where Q1 is 0, and is -2: 9 * 2 - 3; the
-- largest context
contexts_of_eight_bits : map (cell_and_sign (eight_bits 64)) (near 90 0 0 0 ∷ near 68 0 0 90 ∷ near 0 1 6 1 ∷ near 100 50 75 0 ∷ [])
    ≡ (4, true) ∷ (320, false) ∷ (16, true) ∷ (364, true) ∷ []
unfolding context is_negative quantized_gradient
contexts_of_eight_bits = refl

gradients_below_0 : map (quantized_gradient (eight_bits 64))
    (negsuc 20 ∷ negsuc 19 ∷ negsuc 6 ∷ negsuc 5 ∷ negsuc 2 ∷ negsuc 1 ∷ negsuc 0 ∷ [])
    ≡ negsuc 3 ∷ negsuc 2 ∷ negsuc 2 ∷ negsuc 1 ∷ negsuc 1 ∷ negsuc 0 ∷ negsuc 0 ∷ []
unfolding quantized_gradient
gradients_below_0 = refl

gradients_from_0 : map (quantized_gradient (eight_bits 64)) (pos 0 ∷ pos 1 ∷ pos 2 ∷ pos 3 ∷ pos 6 ∷ pos 7 ∷ pos 20 ∷ pos 21 ∷ [])
    ≡ pos 0 ∷ pos 1 ∷ pos 1 ∷ pos 2 ∷ pos 2 ∷ pos 3 ∷ pos 3 ∷ pos 4 ∷ []
unfolding quantized_gradient
gradients_from_0 = refl

-- the same gradients with the opposite signs
contexts_of_one_bit : map (cell_and_sign one_bit) (near 0 1 0 1 ∷ near 1 0 1 0 ∷ []) ≡ (36, false) ∷ (36, true) ∷ []
unfolding context is_negative quantized_gradient
contexts_of_one_bit = refl

contexts_of_three_values : map (cell_and_sign three_values) (near 0 1 0 1 ∷ near 2 0 2 0 ∷ []) ≡ (18, false) ∷ (36, true) ∷ []
unfolding context is_negative quantized_gradient
contexts_of_three_values = refl

contexts_of_sixteen_bits : map (cell_and_sign sixteen_bits) (near 0 1 0 1 ∷ near 65535 0 65535 0 ∷ []) ≡ (9, false) ∷ (36, true) ∷ []
unfolding context is_negative quantized_gradient
contexts_of_sixteen_bits = refl
