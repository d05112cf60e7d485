-- The table of J, entry by entry as T.87 A.7.1 prints it, and the errors of samples that interrupt a run.
use Rattle.std.proofs.Common.{◌≡◌, ℕ, List, [], ◌∷◌, map, refl}
use Rattle.std.specs.Prelude.{ℤ, pos, negsuc}
use Rattle.std.specs.List.{range_with_len}
use Rattle.jls_values.specs.Params.{CodingParameters}
use Rattle.jls_context.specs.Errors.{modulo_reduced}
use Rattle.jls_interval.specs.Cells.{interruption_error}
use Rattle.jls_interval.specs.Runs.{run_order}

orders : map run_order (range_with_len 0 32)
    ≡ 0 ∷ 0 ∷ 0 ∷ 0 ∷ 1 ∷ 1 ∷ 1 ∷ 1 ∷ 2 ∷ 2 ∷ 2 ∷ 2 ∷ 3 ∷ 3 ∷ 3 ∷ 3 ∷ 4 ∷ 4 ∷ 5 ∷ 5 ∷ 6 ∷ 6 ∷ 7 ∷ 7 ∷ 8 ∷ 9 ∷ 10 ∷ 11 ∷ 12 ∷ 13 ∷ 14 ∷ 15
    ∷ []
orders = refl

abbrev bits_8 : CodingParameters
bits_8 = record { precision = 8; maxval = 255; t1 = 3; t2 = 7; t3 = 21; reset = 64 }

-- the samples 2 and 12 after these Ra and Rb
abbrev errors : ℕ → ℕ → List ℤ
errors ra rb = map (interruption_error bits_8 (record { ra = ra; rb = rb; rc = rb; rd = rb })) (2 ∷ 12 ∷ [])

-- Ra above Rb: the difference from Rb changes its sign
ra_above_rb : errors 9 5 ≡ pos 3 ∷ negsuc 6 ∷ []
unfolding modulo_reduced
ra_above_rb = refl

ra_below_rb : errors 3 5 ≡ negsuc 2 ∷ pos 7 ∷ []
unfolding modulo_reduced
ra_below_rb = refl

ra_is_rb : errors 5 5 ≡ negsuc 2 ∷ pos 7 ∷ []
unfolding modulo_reduced
ra_is_rb = refl
