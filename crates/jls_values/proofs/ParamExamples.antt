-- The definition of parameters, computed: defaults at several precisions, given values, and each refusal.
use Rattle.std.proofs.Common.{◌≡◌, ℕ, refl}
use Rattle.std.specs.Prelude.{Result, Ok, Err}
use Rattle.jls_values.specs.declared.params.ParamFault.{ParamFault}
use Rattle.jls_values.specs.declared.params.ParamFault.TheVariants.{Precision, MaxVal, T1, T2, T3, Reset}
use Rattle.jls_values.specs.Params.{CodingParameters, least_from, qbpp, limit}
use Rattle.jls_values.specs.ParamsOf.{params_of}

-- MAXVAL, T1, T2, T3 and RESET at a precision
abbrev values : ℕ → ℕ → ℕ → ℕ → ℕ → ℕ → Result CodingParameters ParamFault
values precision maxval t1 t2 t3 reset =
    Ok (record { precision = precision; maxval = maxval; t1 = t1; t2 = t2; t3 = t3; reset = reset })

-- `params_of` of a precision, and of MAXVAL, T1, T2, T3 and RESET as they are given
abbrev params_given : ℕ → ℕ → ℕ → ℕ → ℕ → ℕ → Result CodingParameters ParamFault
params_given precision maxval t1 t2 t3 reset =
    params_of precision (record { maxval = maxval; t1 = t1; t2 = t2; t3 = t3; reset = reset })

defaults_8 : params_given 8 0 0 0 0 0 ≡ values 8 255 3 7 21 64
defaults_8 = refl

defaults_12 : params_given 12 0 0 0 0 0 ≡ values 12 4095 18 67 276 64
defaults_12 = refl

defaults_2 : params_given 2 0 0 0 0 0 ≡ values 2 3 2 3 3 64
defaults_2 = refl

-- the default of T3, 4, is above MAXVAL, so it is the lower end of its range, which is T2 as it was given, and not MAXVAL
given_t2 : params_given 2 0 0 2 0 0 ≡ values 2 3 2 2 2 64
given_t2 = refl

-- thresholds follow from the MAXVAL in force
maxval_127 : params_given 8 127 0 0 0 0 ≡ values 8 127 2 3 10 64
maxval_127 = refl

maxval_64 : params_given 8 64 0 0 0 0 ≡ values 8 64 2 3 7 64
maxval_64 = refl

maxval_15 : params_given 8 15 0 0 0 0 ≡ values 8 15 2 3 4 64
maxval_15 = refl

-- all three thresholds are held to MAXVAL
maxval_1 : params_given 8 1 0 0 0 0 ≡ values 8 1 1 1 1 64
maxval_1 = refl

-- a default is no less than the threshold before it, given or not
given_t1 : params_given 8 0 10 0 0 0 ≡ values 8 255 10 10 21 64
given_t1 = refl

reset_at_its_bound : params_given 8 0 0 0 0 255 ≡ values 8 255 3 7 21 255
reset_at_its_bound = refl

-- RESET may pass 255 where MAXVAL does
large_reset : params_given 16 0 0 0 0 65535 ≡ values 16 65535 18 67 276 65535
large_reset = refl

precision_17 : params_given 17 0 0 0 0 0 ≡ Err Precision
precision_17 = refl

maxval_256 : params_given 8 256 0 0 0 0 ≡ Err MaxVal
maxval_256 = refl

-- the value is blamed whose own range is broken
t1_300 : params_given 8 0 300 0 0 0 ≡ Err T1
t1_300 = refl

t2_2 : params_given 8 0 0 2 0 0 ≡ Err T2
t2_2 = refl

t3_256 : params_given 8 0 0 0 256 0 ≡ Err T3
t3_256 = refl

reset_2 : params_given 8 0 0 0 0 2 ≡ Err Reset
reset_2 = refl

reset_256 : params_given 8 0 0 0 0 256 ≡ Err Reset
reset_256 = refl

-- of two broken ranges the first is blamed
two_broken : params_given 8 256 0 0 0 2 ≡ Err MaxVal
two_broken = refl

-- RANGE, qbpp, bpp and LIMIT of 1, 8 and 16 bits
abbrev of_maxval : ℕ → CodingParameters
of_maxval maxval = record { precision = 16; maxval = maxval; t1 = 1; t2 = 1; t3 = 1; reset = 64 }

limit_1 : limit (of_maxval 1) ≡ 20
unfolding least_from
limit_1 = refl

qbpp_255 : qbpp (of_maxval 255) ≡ 8
unfolding least_from
qbpp_255 = refl

qbpp_256 : qbpp (of_maxval 256) ≡ 9
unfolding least_from
qbpp_256 = refl

limit_255 : limit (of_maxval 255) ≡ 32
unfolding least_from
limit_255 = refl

limit_65535 : limit (of_maxval 65535) ≡ 64
unfolding least_from
limit_65535 = refl
