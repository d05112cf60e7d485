-- The default parameters of a precision are in their ranges.
use Rattle.std.proofs.Common.{◌≡◌, ◌≤◌, ◌-◌, ◌∙◌, ℕ, zero, suc, Bool, true, false, List, [], ◌∷◌, Option, Some, None, Result, Ok, Err, refl}
use Rattle.std.proofs.Common.{sym, arith, get_or, map}
use Rattle.std.specs.List.{range_with_len}
use Rattle.std.proofs.lemmas.List.FromFn.{get_or-map-range_with_len}
use Rattle.jls_values.specs.Params.{CodingParameters}
use Rattle.jls_values.specs.ParamsOf.{in_force, param_fault, params_in_range, params_of}
use Rattle.jls_values.specs.PresetParameters.{no_presets}
use Rattle.jls_values.specs.declared.params.ParamFault.{ParamFault}

abbrev is_none : Option ParamFault → Bool
is_none None = true
is_none (Some f) = false

-- whether no default of a precision is outside its range
abbrev test : ℕ → Bool
test p = is_none (param_fault (in_force p no_presets))

abbrev all : List Bool → Bool
all [] = true
all (true ∷ xs) = all xs
all (false ∷ xs) = false

-- where all tests hold, each does
each : (xs : List Bool) (i : ℕ) → all xs ≡ true → get_or xs i true ≡ true
each [] i e = refl
each (true ∷ xs) zero e = refl
each (true ∷ xs) (suc i) e = each xs i e
each (false ∷ xs) i e = absurd cc

tested : all (map test (range_with_len 2 15)) ≡ true
tested = refl

in_range : (p : CodingParameters) (f : Option ParamFault) → is_none f ≡ true → params_in_range p f ≡ Ok p
in_range p None e = refl
in_range p (Some f) e = absurd cc

-- with no values given, the parameters of a precision are its defaults
pub defaults_are : (p : ℕ) → 2 ≤ p → p ≤ 16 → params_of p no_presets ≡ Ok (in_force p no_presets)
defaults_are p low high =
    let passes : test p ≡ true =
    sym (get_or-map-range_with_len test 2 15 (p - 2) p true (omega (arith, low, high)) (omega (arith, low, high)))
    ∙ each (map test (range_with_len 2 15)) (p - 2) tested in
    in_range (in_force p no_presets) (param_fault (in_force p no_presets)) passes

-- what is a value is no fault
pub never_both : (r : Result CodingParameters ParamFault) (p : CodingParameters) (f : ParamFault) → r ≡ Ok p → r ≡ Err f → ⊥
never_both (Ok q) p f d e = absurd cc
never_both (Err g) p f d e = absurd cc

-- two values of one result are one value
pub one_value : (r : Result CodingParameters ParamFault) (p q : CodingParameters) → r ≡ Ok p → r ≡ Ok q → p ≡ q
one_value r p q d e = let same : Ok p ≡ Ok q = sym d ∙ e in cc
