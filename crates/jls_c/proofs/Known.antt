-- Which answers there are.
use Rattle.std.proofs.Common.{◌≡◌, ℕ, zero, suc, ◌≤◌, [], ◌∷◌, refl, arith}
use Rattle.std.specs.Prelude.{Contains}

pub of_check : (n : ℕ) → n ≤ 2 → Contains (0 ∷ 2 ∷ 1 ∷ []) n
of_check zero most = (0, omega arith, refl)
of_check (suc zero) most = (2, omega arith, refl)
of_check (suc (suc zero)) most = (1, omega arith, refl)
of_check (suc (suc (suc n))) most = absurd (omega (arith, most))

pub of_read : (n : ℕ) → n ≤ 3 → Contains (0 ∷ 3 ∷ 2 ∷ 1 ∷ []) n
of_read zero most = (0, omega arith, refl)
of_read (suc zero) most = (3, omega arith, refl)
of_read (suc (suc zero)) most = (2, omega arith, refl)
of_read (suc (suc (suc zero))) most = (1, omega arith, refl)
of_read (suc (suc (suc (suc n)))) most = absurd (omega (arith, most))

pub of_lines : (n : ℕ) → n ≤ 4 → (n ≡ 2 → ⊥) → Contains (0 ∷ 3 ∷ 4 ∷ 1 ∷ []) n
of_lines zero most not = (0, omega arith, refl)
of_lines (suc zero) most not = (3, omega arith, refl)
of_lines (suc (suc zero)) most not = absurd (not refl)
of_lines (suc (suc (suc zero))) most not = (1, omega arith, refl)
of_lines (suc (suc (suc (suc zero)))) most not = (2, omega arith, refl)
of_lines (suc (suc (suc (suc (suc n))))) most not = absurd (omega (arith, most))

pub of_join : (n : ℕ) → n ≤ 6 → (n ≡ 2 → ⊥) → Contains (0 ∷ 3 ∷ 4 ∷ 5 ∷ 6 ∷ 1 ∷ []) n
of_join zero most not = (0, omega arith, refl)
of_join (suc zero) most not = (5, omega arith, refl)
of_join (suc (suc zero)) most not = absurd (not refl)
of_join (suc (suc (suc zero))) most not = (1, omega arith, refl)
of_join (suc (suc (suc (suc zero)))) most not = (2, omega arith, refl)
of_join (suc (suc (suc (suc (suc zero))))) most not = (3, omega arith, refl)
of_join (suc (suc (suc (suc (suc (suc zero)))))) most not = (4, omega arith, refl)
of_join (suc (suc (suc (suc (suc (suc (suc n))))))) most not = absurd (omega (arith, most))

-- those of a file that is put into a buffer
pub of_write : (n : ℕ) → ((n ≡ 0 → ⊥) → n ≡ 3) → Contains (0 ∷ 3 ∷ 7 ∷ 8 ∷ 9 ∷ 1 ∷ []) n
of_write zero short = (0, omega arith, refl)
of_write (suc n) short = (1, omega arith, let is : suc n ≡ 3 = short (λ none. absurd (omega (arith, none))) in cc)

-- those of what was mended, and of why nothing was
pub of_mended : (n : ℕ) → n ≤ 3 → (n ≡ 2 → ⊥) → Contains (0 ∷ 3 ∷ 15 ∷ 1 ∷ []) n
of_mended zero most not = (0, omega arith, refl)
of_mended (suc zero) most not = (3, omega arith, refl)
of_mended (suc (suc zero)) most not = absurd (not refl)
of_mended (suc (suc (suc zero))) most not = (1, omega arith, refl)
of_mended (suc (suc (suc (suc n)))) most not = absurd (omega (arith, most))

pub of_refused : (n : ℕ) → Contains (15 ∷ 1 ∷ []) n → Contains (0 ∷ 3 ∷ 15 ∷ 1 ∷ []) n
of_refused n (zero, below, is) = (2, omega arith, is)
of_refused n (suc zero, below, is) = (3, omega arith, is)
of_refused n (suc (suc k), below, is) = absurd (omega (arith, below))
