-- How large mapped numbers and parameters are.
use Rattle.std.proofs.Common.{◌≡◌, ℕ, zero, suc, ◌+◌, ◌^◌, ◌<◌, ◌≤◌, Bool, true, false, leb, subst, arith, inl, inr, lit<}
use Rattle.std.specs.Prelude.{ℤ, pos, negsuc}
use Rattle.std.proofs.lemmas.Int.{ints}
use Rattle.std.proofs.lemmas.Bool.{cases_Bool, le-leb}
use Rattle.std.proofs.Math.Nat.{pow-le-pow_right}
use borrow.Author.Tests.{leb-true}
use Rattle.jls_values.specs.Params.{CodingParameters, AreCodingParameters, range, qbpp, least_from}
use Rattle.jls_context.specs.Errors.{IsError, error_mapped}
use Rattle.jls_context.specs.declared.interruption.RunCell.{RunCell}
use Rattle.jls_context.specs.Interruption.{interruption_mapped}

-- the number found passes, where the number after all of them does
pub least_from-passes : (passes : ℕ → Bool) (count from : ℕ) → passes (from + count) ≡ true → passes (least_from passes count from) ≡ true
unfolding least_from
least_from-passes passes zero from last = subst (λ z. passes z ≡ true) (let e : from + 0 ≡ from = omega arith in e) last
least_from-passes passes (suc count) from last =
    elim (cases_Bool (passes from)) [
      | inl e ↦ rw e e
      | inr e ↦ rw e
          (least_from-passes passes count (suc from)
          (subst (λ z. passes z ≡ true) (let e : from + suc count ≡ suc from + count = omega arith in e) last))
    ]

pub maxval_small : (p : CodingParameters) → AreCodingParameters p → p.maxval < 2 ^ 16
maxval_small p are =
    let le : 2 ^ p.precision ≤ 2 ^ 16 = pow-le-pow_right (lit< tt) are.precision_at_most in omega arith

pub reset_small : (p : CodingParameters) → AreCodingParameters p → p.reset < 2 ^ 16
reset_small p are = let small = maxval_small p are in omega arith

-- qbpp bits hold RANGE values
pub range-le-pow : (p : CodingParameters) → p.maxval < 2 ^ 16 → range p ≤ 2 ^ qbpp p
range-le-pow p small =
    leb-true (range p) (2 ^ qbpp p)
    (least_from-passes (λ bits. leb (range p) (2 ^ bits)) 16 0 (le-leb (range p) (2 ^ (0 + 16)) (omega arith)))

pub error_mapped_at_most : (p : CodingParameters) (special : Bool) (e : ℤ) → IsError p e → error_mapped special e ≤ range p
error_mapped_at_most p true (pos n) is = omega (arith, ints)
error_mapped_at_most p true (negsuc n) is = omega (arith, ints)
error_mapped_at_most p false (pos n) is = omega (arith, ints)
error_mapped_at_most p false (negsuc n) is = omega (arith, ints)

-- below MAXVAL each number is an error's
pub small_is_error : (p : CodingParameters) (special : Bool) (e : ℤ) → error_mapped special e < p.maxval → IsError p e
small_is_error p true (pos n) small = record { at_least = omega (arith, ints); below = omega (arith, ints) }
small_is_error p true (negsuc n) small = record { at_least = omega (arith, ints); below = omega (arith, ints) }
small_is_error p false (pos n) small = record { at_least = omega (arith, ints); below = omega (arith, ints) }
small_is_error p false (negsuc n) small = record { at_least = omega (arith, ints); below = omega (arith, ints) }

pub interruption_mapped_at_most : (p : CodingParameters) (same : Bool) (cell : RunCell) (e : ℤ) → IsError p e
    → interruption_mapped same cell e ≤ range p
interruption_mapped_at_most p same cell (pos n) is = omega (arith, ints)
interruption_mapped_at_most p same cell (negsuc n) is = omega (arith, ints)
