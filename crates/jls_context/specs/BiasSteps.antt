-- Inside the crate: B and C after the bias computation, each by itself.
use Rattle.std.specs.Prelude.{ℕ, if◌then◌else◌, ℤ, pos, negsuc, neg_ℤ, ◌+ℤ◌, ◌-ℤ◌, int_le, int_lt}
use Rattle.std.specs.Int.{int_max, int_min}

-- B
abbrev pub computed_bias : ℕ → ℤ → ℤ
computed_bias n b =
    if int_le b (neg_ℤ (pos n)) then int_max (b +ℤ pos n) (pos 1 -ℤ pos n)
    else if int_lt (pos 0) b then int_min (b -ℤ pos n) (pos 0)
    else b

-- C
abbrev pub computed_correction : ℕ → ℤ → ℤ → ℤ
computed_correction n b c =
    if int_le b (neg_ℤ (pos n)) then int_max (c -ℤ pos 1) (negsuc 127)
    else if int_lt (pos 0) b then int_min (c +ℤ pos 1) (pos 127)
    else c
