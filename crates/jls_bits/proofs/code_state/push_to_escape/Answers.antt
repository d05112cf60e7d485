use Rattle.std.proofs.Common.{◌≡◌, ℕ, ◌*◌, ◌^◌, ◌%◌, ◌+◌, ◌-◌, ◌≤◌, Bool, arith, ap, ◌∙◌}
use mir.Val.{bool_byte}
use Rattle.jls_bits.specs.CodeState.{IsOpen}
use Rattle.jls_bits.specs.declared.code_state.CodeState.TheVariants.{Escape}
use Rattle.jls_bits.proofs.NumberBits.{bits_push_bool}
use Rattle.jls_bits.proofs.CodeSteps.{escape_more, escape_whole, escape_too_small, escape_shifted, largest_shifted}
use Rattle.jls_bits.proofs.code_state.push_to_escape.Goals as goal

-- what the two sides of the first test are
sides : (k g q count value : ℕ) (bit : Bool) → k ≤ 16 → q ≤ 16 → (q + 2 ≤ g) × (g ≤ 64) → IsOpen k g q (Escape count value)
    → (let n = count + 1 in let w = 2 * value + bool_byte bit in ((g - q - 1) * 2 ^ k % 4294967296 ≡ (g - q - 1) * 2 ^ k)
    × ((w + 1) * 2 ^ (q - n) % 4294967296 ≡ (w + 1) * 2 ^ (q - n)))
sides k g q count value bit kk qq gg o = (
  escape_shifted k g q kk gg.1,
  largest_shifted q (count + 1) (2 * value + bool_byte bit) qq (omega (arith, o.0)) (bits_push_bool bit count value o.1).1,
)

pub returns-then-largest-escape : goal.returns-then-largest-escape
returns-then-largest-escape c =
    let o = c.requires.open in let count : ℕ = c.args.number.count in let value : ℕ = c.args.number.value in
    let s = sides c.args.k c.args.g c.args.qbpp count value c.args.bit c.requires.k c.requires.qbpp c.requires.g o in
    escape_too_small c.args.k c.args.g c.args.qbpp c.requires.g.0 count value c.args.bit o.1 (omega (arith, o.0)) (omega (arith, s.0, s.1))

-- the escape's number still lacks bits
pub returns-then-count-qbpp : goal.returns-then-count-qbpp
returns-then-count-qbpp c =
    let o = c.requires.open in let count : ℕ = c.args.number.count in let value : ℕ = c.args.number.value in
    let s = sides c.args.k c.args.g c.args.qbpp count value c.args.bit c.requires.k c.requires.qbpp c.requires.g o in
    let w = 2 * value + bool_byte c.args.bit in
    let z : c.args.qbpp - (count + 1) ≡ 0 = omega arith in
    let p : (w + 1) * 2 ^ (c.args.qbpp - (count + 1)) ≡ w + 1 = ap (λ x. (w + 1) * 2 ^ x) z ∙ omega arith in
    escape_whole c.args.k c.args.g c.args.qbpp c.requires.g.0 count value c.args.bit o.1 c.if-count-qbpp.true
    (omega (arith, s.0, s.1, p))

pub returns-else-count-qbpp : goal.returns-else-count-qbpp
returns-else-count-qbpp c =
    let o = c.requires.open in let count : ℕ = c.args.number.count in let value : ℕ = c.args.number.value in
    let s = sides c.args.k c.args.g c.args.qbpp count value c.args.bit c.requires.k c.requires.qbpp c.requires.g o in
    escape_more c.args.k c.args.g c.args.qbpp c.requires.g.0 count value c.args.bit o.1 (omega (arith, o.0)) (omega (arith, s.0, s.1))
