-- The parameters in force if some values are given, or the first value that is outside its range. A 0 asks for the default (T.87
-- C.2.4.1.1.1, at NEAR 0). That each default follows from the values in force before it is this project's choice.
use Rattle.std.specs.Prelude.{ℕ, ◌+◌, ◌-◌, ◌*◌, ◌/◌, ◌^◌, min, max, Bool, ◌||◌, nat_lt, nat_le, ◌==◌, Option, Some, None, Result, Ok, Err}
use Rattle.std.specs.Prelude.{if◌then◌else◌}
use Rattle.jls_values.specs.declared.params.ParamFault.{ParamFault}
use Rattle.jls_values.specs.declared.params.ParamFault.TheVariants.{Precision, MaxVal, T1, T2, T3, Reset}
use Rattle.jls_values.specs.Params.{CodingParameters}
use Rattle.jls_values.specs.PresetParameters.{PresetParameters}

-- the value that is given, or if it is 0 the default
abbrev pub or_default : ℕ → ℕ → ℕ
or_default given default = if given == 0 then default else given

-- whether a value is outside the range from `low` to `high`
abbrev pub is_outside : ℕ → ℕ → ℕ → Bool
is_outside low high value = nat_lt value low || nat_lt high value

-- CLAMP: the value if it lies from `low` to MAXVAL, else `low`, above MAXVAL too (T.87 C.2.4.1.1.1)
abbrev pub clamped : ℕ → ℕ → ℕ → ℕ
clamped maxval low value = if is_outside low maxval value then low else value

-- FACTOR (T.87 C.2.4.1.1.1)
abbrev pub factor : ℕ → ℕ
factor maxval = if nat_le 128 maxval then (min maxval 4095 + 128) / 256 else 256 / (maxval + 1)

-- the default of T1 (T.87 C.2.4.1.1.1)
abbrev pub default_t1 : ℕ → ℕ
default_t1 maxval =
    clamped maxval 1 (if nat_le 128 maxval then factor maxval + 2 else max 2 (3 / factor maxval))

-- the default of T2, for the T1 in force (T.87 C.2.4.1.1.1)
abbrev pub default_t2 : ℕ → ℕ → ℕ
default_t2 maxval t1 =
    clamped maxval t1 (if nat_le 128 maxval then 4 * factor maxval + 3 else max 3 (7 / factor maxval))

-- the default of T3, for the T2 in force (T.87 C.2.4.1.1.1)
abbrev pub default_t3 : ℕ → ℕ → ℕ
default_t3 maxval t2 =
    clamped maxval t2 (if nat_le 128 maxval then 17 * factor maxval + 4 else max 4 (21 / factor maxval))

-- the values in force at this precision if these are given: each default rests on the values in force before it (T.87 C.2.4.1.1.1)
abbrev pub in_force : ℕ → PresetParameters → CodingParameters
in_force precision given =
    let maxval = or_default given.maxval (2 ^ precision - 1) in
    let t1 = or_default given.t1 (default_t1 maxval) in
    let t2 = or_default given.t2 (default_t2 maxval t1) in
    let t3 = or_default given.t3 (default_t3 maxval t2) in
    record { precision = precision; maxval = maxval; t1 = t1; t2 = t2; t3 = t3; reset = or_default given.reset 64 }

-- the first value outside its range, in the order of the record
abbrev pub param_fault : CodingParameters → Option ParamFault
param_fault p =
    if is_outside 2 16 p.precision then Some Precision
    else if is_outside 1 (2 ^ p.precision - 1) p.maxval then Some MaxVal
    else if is_outside 1 p.maxval p.t1 then Some T1
    else if is_outside p.t1 p.maxval p.t2 then Some T2
    else if is_outside p.t2 p.maxval p.t3 then Some T3
    else if is_outside 3 (max 255 p.maxval) p.reset then Some Reset
    else None

-- these parameters, if no value is outside its range
abbrev pub params_in_range : CodingParameters → Option ParamFault → Result CodingParameters ParamFault
params_in_range p (Some fault) = Err fault
params_in_range p None = Ok p

-- the parameters in force at this precision if these are given, or the first value outside its range
abbrev pub params_of : ℕ → PresetParameters → Result CodingParameters ParamFault
params_of precision given = let p = in_force precision given in params_in_range p (param_fault p)
