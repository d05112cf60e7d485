-- The prediction that finds edges is a median.
use Rattle.std.proofs.Common.{◌≡◌, ℕ, ◌+◌, ◌-◌, inl, inr, arith}
use Rattle.std.specs.Prelude.{min, max, ℤ, pos, ◌+ℤ◌, ◌-ℤ◌, nat_abs}
use Rattle.std.specs.Int.{int_max, int_min}
use Rattle.std.proofs.lemmas.Int.{ints, clamps}
use Rattle.std.proofs.lemmas.Bool.{cases_lt, le-leb, lt-leb}
use Rattle.jls_context.specs.Prediction.{edge_detecting_predictor}

-- the sum less Rc, brought between the smaller and the larger of Ra and Rb
pub median_is : (a b c : ℕ) → min (max (a + b) (c + min a b)) (c + max a b) - c ≡ edge_detecting_predictor a b c
median_is a b c =
    elim (cases_lt c (max a b)) [
      | inr h ↦ (let t = le-leb (max a b) c h in rw t (omega arith))
      | inl h ↦ (let t = lt-leb (max a b) c h in elim (cases_lt (min a b) c) [
        | inr g ↦ (let u = le-leb c (min a b) g in rw (t, u) (omega arith))
        | inl g ↦ (let u = lt-leb c (min a b) g in rw (t, u) (omega arith))
      ])
    ]

-- the prediction computed on integers is that of `edge_detecting_predictor`
pub median_of : (a b c : ℕ) (m r : ℤ) → m ≡ int_max (pos a +ℤ pos b -ℤ pos c) (pos (min a b)) → r ≡ int_min m (pos (max a b))
    → nat_abs r ≡ edge_detecting_predictor a b c
median_of a b c m r raised clamped = let is = median_is a b c in omega (arith, ints, clamps)
