-- No two contexts have one number.
use Rattle.std.proofs.Common.{◌≡◌, ℕ, Bool, true, false, sym, ap, ◌∙◌, arith}
use Rattle.std.specs.Prelude.{ℤ, pos, ◌-ℤ◌, unsigned_abs}
use Rattle.std.proofs.lemmas.Int.{ints}
use Rattle.jls_values.specs.Params.{CodingParameters}
use Rattle.jls_context.specs.declared.mode.Neighbours.{Neighbours}
use Rattle.jls_context.specs.Mode.{with_sign, quantized_gradient, quantized_gradients, is_negative, weighed, context, signed_gradients}
use Rattle.jls_context.specs.Mode.{ContextsAreApart, IsQuantizedGradient}
use Rattle.jls_context.proofs.Gradients.{gradient_range, sign_is, size_is}

-- a quantized gradient with its sign turned is one
signed_step : (negative : Bool) (q : ℤ) → IsQuantizedGradient q → IsQuantizedGradient (with_sign negative q)
signed_step true q s = let low = s.at_least in let high = s.at_most in
    record { at_least = omega (arith, ints); at_most = omega (arith, ints) }
signed_step false q s = s

-- the number of a context is the weighed sum itself
number_is : (p : CodingParameters) (near : Neighbours) → pos (context p near) ≡ (let s = signed_gradients p near in weighed s.q1 s.q2 s.q3)
unfolding is_negative context
number_is p near =
    let d1 : ℤ = pos near.rd -ℤ pos near.rb in let d2 : ℤ = pos near.rb -ℤ pos near.rc in let d3 : ℤ = pos near.rc -ℤ pos near.ra in
    let a = gradient_range p d1 in let b = gradient_range p d2 in let c = gradient_range p d3 in
    let q1 : ℤ = quantized_gradient p d1 in let q2 : ℤ = quantized_gradient p d2 in let q3 : ℤ = quantized_gradient p d3 in
    let size = size_is (is_negative p near) q1 q2 q3 (sign_is q1 q2 q3 a b c) in
    ap (λ (z : ℤ). pos (unsigned_abs z)) (sym size) ∙ size

-- three steps weigh what no other three do, since 2 * (9 * 4 + 4) is less than 81
steps_apart : (q1 q2 q3 r1 r2 r3 : ℤ) → IsQuantizedGradient q1 → IsQuantizedGradient q2 → IsQuantizedGradient q3 → IsQuantizedGradient r1
    → IsQuantizedGradient r2 → IsQuantizedGradient r3
    → weighed q1 q2 q3 ≡ weighed r1 r2 r3
    → (q1 ≡ r1) × (q2 ≡ r2) × (q3 ≡ r3)
steps_apart q1 q2 q3 r1 r2 r3 a b c d e f same = (omega (arith, ints), omega (arith, ints), omega (arith, ints))

-- two samples whose contexts have one number have the same quantized gradients, with their signs
pub apart : ContextsAreApart
apart p near other same =
    let q = quantized_gradients p near in let r = quantized_gradients p other in
    let m = is_negative p near in let n = is_negative p other in
    let sums = sym (number_is p near) ∙ (ap (λ (k : ℕ). pos k) same ∙ number_is p other) in
    let e = steps_apart (with_sign m q.q1) (with_sign m q.q2) (with_sign m q.q3) (with_sign n r.q1) (with_sign n r.q2) (with_sign n r.q3)
    (signed_step m q.q1 (gradient_range p (pos near.rd -ℤ pos near.rb)))
    (signed_step m q.q2 (gradient_range p (pos near.rb -ℤ pos near.rc)))
    (signed_step m q.q3 (gradient_range p (pos near.rc -ℤ pos near.ra)))
    (signed_step n r.q1 (gradient_range p (pos other.rd -ℤ pos other.rb)))
    (signed_step n r.q2 (gradient_range p (pos other.rb -ℤ pos other.rc)))
    (signed_step n r.q3 (gradient_range p (pos other.rc -ℤ pos other.ra))) sums in
    λ i. record { q1 = e.0 i; q2 = e.1 i; q3 = e.2 i }
