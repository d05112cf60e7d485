-- The predicted sample (T.87, A.4.1, A.4.2).
use Rattle.std.specs.Prelude.{ℕ, ◌+◌, ◌-◌, min, max, Bool, nat_le, if◌then◌else◌, ℤ, pos, negsuc, ◌+ℤ◌}
use Rattle.jls_values.specs.Params.{CodingParameters}
use Rattle.jls_context.specs.Mode.{with_sign}

-- the prediction from Ra, Rb and Rc, which finds edges (T.87 A.4.1)
abbrev pub edge_detecting_predictor : ℕ → ℕ → ℕ → ℕ
edge_detecting_predictor ra rb rc =
    if nat_le (max ra rb) rc then min ra rb
    else if nat_le rc (min ra rb) then max ra rb
    else ra + rb - rc

-- the sample from 0 to MAXVAL that is nearest to a number (T.87 A.4.1, A.4.2)
abbrev pub clamped_prediction : CodingParameters → ℤ → ℕ
clamped_prediction p (pos n) = min n p.maxval
clamped_prediction p (negsuc n) = 0

-- the prediction with SIGN * C added to it, clamped (T.87 A.4.2)
unfoldable pub corrected_prediction : CodingParameters → Bool → ℤ → ℕ → ℕ
corrected_prediction p negative correction prediction =
    clamped_prediction p (pos prediction +ℤ with_sign negative correction)
