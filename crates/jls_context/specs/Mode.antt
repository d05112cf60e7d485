-- The mode of a sample: run mode, or regular mode with the context and the SIGN of its neighbours (T.87, A.3).
use Rattle.std.specs.Prelude.{◌≡◌, ℕ, zero, suc, ◌≤◌, Bool, true, false, ◌&&◌, nat_lt, ◌==◌, if◌then◌else◌, List, [], ◌∷◌}
use Rattle.std.specs.Prelude.{ℤ, pos, negsuc, ◌+ℤ◌, ◌-ℤ◌, ◌*ℤ◌, neg_ℤ, ◌≤ℤ◌, unsigned_abs, int_lt}
use Rattle.jls_values.specs.Params.{CodingParameters}
use Rattle.jls_context.specs.declared.mode.Neighbours.{Neighbours}
use Rattle.jls_context.specs.declared.mode.Mode.{Mode}
use Rattle.jls_context.specs.declared.mode.Mode.TheVariants.{Run, Regular}

-- the number with the opposite sign where SIGN is -1 (T.87 A.3)
abbrev pub with_sign : Bool → ℤ → ℤ
with_sign negative z = if negative then neg_ℤ z else z

-- run mode: the gradients Rd - Rb, Rb - Rc and Rc - Ra are all 0 (T.87 A.3.2)
abbrev pub is_run_mode : Neighbours → Bool
is_run_mode near = (near.rd == near.rb) && (near.rb == near.rc) && (near.rc == near.ra)

-- the size of a quantized gradient, from that of the gradient (T.87 A.3.3)
abbrev pub quantized_size : CodingParameters → ℕ → ℕ
quantized_size p size =
    if size == 0 then 0
    else if nat_lt size p.t1 then 1
    else if nat_lt size p.t2 then 2
    else if nat_lt size p.t3 then 3
    else 4

-- a gradient in nine steps from -4 to 4: its size in five steps, with its sign (T.87 A.3.3)
unfoldable pub quantized_gradient : CodingParameters → ℤ → ℤ
quantized_gradient p gradient =
    with_sign (int_lt gradient (pos 0)) (pos (quantized_size p (unsigned_abs gradient)))

-- the three quantized gradients (T.87 A.3.1, A.3.3)
pub record QuantizedGradients : Type 0 where
  pub q1 : ℤ
  pub q2 : ℤ
  pub q3 : ℤ

-- the three quantized gradients of a sample, from its neighbours: those of Rd - Rb, Rb - Rc and Rc - Ra (T.87 A.3)
abbrev pub quantized_gradients : CodingParameters → Neighbours → QuantizedGradients
quantized_gradients p near = record {
  q1 = quantized_gradient p (pos near.rd -ℤ pos near.rb);
  q2 = quantized_gradient p (pos near.rb -ℤ pos near.rc);
  q3 = quantized_gradient p (pos near.rc -ℤ pos near.ra);
}

-- a quantized gradient is from -4 to 4 (T.87 A.3.1, A.3.3)
pub record IsQuantizedGradient (q : ℤ) : Type 0 where
  pub at_least : negsuc 3 ≤ℤ q
  pub at_most : q ≤ℤ pos 4

-- these are the quantized gradients of a sample with these neighbours (T.87 A.3.1, A.3.3)
pub record AreGradients (p : CodingParameters) (near : Neighbours) (q1 q2 q3 : ℤ) : Type 0 where
  pub first : q1 ≡ quantized_gradient p (pos near.rd -ℤ pos near.rb)
  pub second : q2 ≡ quantized_gradient p (pos near.rb -ℤ pos near.rc)
  pub third : q3 ≡ quantized_gradient p (pos near.rc -ℤ pos near.ra)

-- whether the first of these that is not 0 is negative (T.87 A.3)
abbrev pub is_first_negative : List ℤ → Bool
is_first_negative [] = false
is_first_negative (pos zero ∷ later) = is_first_negative later
is_first_negative (pos (suc n) ∷ later) = false
is_first_negative (negsuc n ∷ later) = true

-- whether SIGN is -1: the first quantized gradient other than 0 is negative (T.87 A.3.4)
unfoldable pub is_negative : CodingParameters → Neighbours → Bool
is_negative p near = let q = quantized_gradients p near in is_first_negative (q.q1 ∷ q.q2 ∷ q.q3 ∷ [])

-- 81*Q1 + 9*Q2 + Q3 (T.87 A.3.4)
abbrev pub weighed : ℤ → ℤ → ℤ → ℤ
weighed q1 q2 q3 = pos 81 *ℤ q1 +ℤ pos 9 *ℤ q2 +ℤ q3

-- the number of the context: the quantized gradients, each with SIGN, weighed, and the size of that sum (T.87 A.3.4)
unfoldable pub context : CodingParameters → Neighbours → ℕ
context p near =
    let q = quantized_gradients p near in let negative = is_negative p near in
    unsigned_abs (weighed (with_sign negative q.q1) (with_sign negative q.q2) (with_sign negative q.q3))

-- the quantized gradients, each with SIGN: what the number of a context means (T.87 A.3.4)
abbrev pub signed_gradients : CodingParameters → Neighbours → QuantizedGradients
signed_gradients p near =
    let q = quantized_gradients p near in let negative = is_negative p near in
    record { q1 = with_sign negative q.q1; q2 = with_sign negative q.q2; q3 = with_sign negative q.q3 }

-- samples whose contexts have one number have the same quantized gradients with SIGN (T.87 A.3.4)
abbrev pub ContextsAreApart : Type 0
ContextsAreApart =
    (p : CodingParameters) (near other : Neighbours) → context p near ≡ context p other → signed_gradients p near ≡ signed_gradients p other

-- a sample with these neighbours is in regular mode, with this context (`cell`) and this SIGN (T.87 A.3)
pub record IsRegularMode (p : CodingParameters) (near : Neighbours) (cell : ℕ) (negative : Bool) : Type 0 where
  pub not_run : is_run_mode near ≡ false
  pub context_is : cell ≡ context p near
  pub sign_is : negative ≡ is_negative p near
  pub weighed_is : let q = quantized_gradients p near in
      pos cell ≡ weighed (with_sign negative q.q1) (with_sign negative q.q2) (with_sign negative q.q3)
  pub at_least : 1 ≤ cell
  pub at_most : cell ≤ 364

-- a sample with these neighbours is in this mode (T.87 A.3)
abbrev pub IsMode : CodingParameters → Neighbours → Mode → Type 0
IsMode p near Run = is_run_mode near ≡ true
IsMode p near (Regular cell negative) = IsRegularMode p near cell negative
