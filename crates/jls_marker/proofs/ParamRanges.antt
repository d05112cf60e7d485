-- The parameters that are in force are in range.
use Rattle.std.proofs.Common.{◌≡◌, ℕ, ◌-◌, ◌≤◌, ◌^◌, max, Bool, true, false, cond, Option, Some, None, Result, Ok, refl, sym, subst, arith}
use Rattle.std.specs.Prelude.{nat_lt, is_ok}
use Rattle.std.proofs.lemmas.Bool.{ltb-false, or_parts}
use Rattle.std.proofs.lemmas.Bool.Decides.{nat_tests}
use Rattle.std.proofs.Common.{◌||◌}
use Rattle.jls_values.specs.Params.{CodingParameters, AreCodingParameters}
use Rattle.jls_values.specs.PresetParameters.{PresetParameters}
use Rattle.jls_values.specs.ParamsOf.{in_force, is_outside, param_fault, params_in_range, params_of}
use Rattle.jls_values.specs.declared.params.ParamFault.{ParamFault}

inside : (low high value : ℕ) → is_outside low high value ≡ false → (low ≤ value) × (value ≤ high)
inside low high value e = let p = or_parts (nat_lt value low) (nat_lt high value) e in (ltb-false _ _ p.0, ltb-false _ _ p.1)

first_none : (b : Bool) (f : ParamFault) (o : Option ParamFault) → cond b (Some f) o ≡ None → (b ≡ false) × (o ≡ None)
first_none true f o e = absurd cc
first_none false f o e = (refl, e)

-- parameters without a fault are in their ranges
pub faultless : (p : CodingParameters) → param_fault p ≡ None → AreCodingParameters p
faultless p e =
    let a = first_none (is_outside 2 16 p.precision) _ _ e in
    let b = first_none (is_outside 1 (2 ^ p.precision - 1) p.maxval) _ _ a.1 in
    let c = first_none (is_outside 1 p.maxval p.t1) _ _ b.1 in
    let d = first_none (is_outside p.t1 p.maxval p.t2) _ _ c.1 in
    let f = first_none (is_outside p.t2 p.maxval p.t3) _ _ d.1 in
    let g = first_none (is_outside 3 (max 255 p.maxval) p.reset) _ _ f.1 in
    let a2 = inside _ _ _ a.0 in
    let b2 = inside _ _ _ b.0 in
    let c2 = inside _ _ _ c.0 in
    let d2 = inside _ _ _ d.0 in
    let f2 = inside _ _ _ f.0 in
    let g2 = inside _ _ _ g.0 in
    record {
      precision_at_least = a2.0;
      precision_at_most = a2.1;
      maxval_at_least = b2.0;
      maxval_below = omega (arith, b2.0, b2.1);
      t1_at_least = c2.0;
      t2_at_least = d2.0;
      t3_at_least = f2.0;
      t3_at_most = f2.1;
      reset_at_least = g2.0;
      reset_at_most = g2.1;
    }

abbrev done : CodingParameters → Result CodingParameters ParamFault
done p = Ok p

done_is : (p q : CodingParameters) → done p ≡ done q → p ≡ q
done_is p q e = cc

-- what is in force where nothing is out of range
judged_there : (q p : CodingParameters) (o : Option ParamFault) → param_fault q ≡ o → params_in_range q o ≡ Ok p
    → (p ≡ q) × AreCodingParameters p
judged_there q p None n e = let s : p ≡ q = sym (done_is q p e) in (s, subst AreCodingParameters (sym s) (faultless q n))
judged_there q p (Some f) n e = absurd cc

pub params_there : (precision : ℕ) (given : PresetParameters) (p : CodingParameters) → params_of precision given ≡ Ok p
    → (p ≡ in_force precision given) × AreCodingParameters p
params_there precision given p e = let q = in_force precision given in judged_there q p (param_fault q) refl e

judged_ok : (q : CodingParameters) (o : Option ParamFault) → param_fault q ≡ o → is_ok (params_in_range q o) ≡ true → AreCodingParameters q
judged_ok q None n e = faultless q n
judged_ok q (Some f) n e = absurd cc

pub params_ok : (precision : ℕ) (given : PresetParameters) → is_ok (params_of precision given) ≡ true
    → AreCodingParameters (in_force precision given)
params_ok precision given e = let q = in_force precision given in judged_ok q (param_fault q) refl e

-- parameters in their ranges have no fault
pub no_param_fault : (p : CodingParameters) → AreCodingParameters p → param_fault p ≡ None
no_param_fault p i =
    let a : (nat_lt p.precision 2 || nat_lt 16 p.precision) ≡ false = grind (arith, nat_tests, i.precision_at_least, i.precision_at_most) in
    let b : (nat_lt p.maxval 1 || nat_lt (2 ^ p.precision - 1) p.maxval) ≡ false =
    grind (arith, nat_tests, i.maxval_at_least, i.maxval_below) in
    let c : (nat_lt p.t1 1 || nat_lt p.maxval p.t1) ≡ false =
    grind (arith, nat_tests, i.t1_at_least, i.t2_at_least, i.t3_at_least, i.t3_at_most) in
    let d : (nat_lt p.t2 p.t1 || nat_lt p.maxval p.t2) ≡ false =
    grind (arith, nat_tests, i.t2_at_least, i.t3_at_least, i.t3_at_most) in
    let e : (nat_lt p.t3 p.t2 || nat_lt p.maxval p.t3) ≡ false = grind (arith, nat_tests, i.t3_at_least, i.t3_at_most) in
    let f : (nat_lt p.reset 3 || nat_lt (max 255 p.maxval) p.reset) ≡ false = grind (arith, nat_tests, i.reset_at_least, i.reset_at_most) in
    rw (a, b, c, d, e, f) refl
