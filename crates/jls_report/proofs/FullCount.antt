-- All lines are counted as settled exactly where each line is settled.
use Rattle.std.proofs.Common.{◌≡◌, ℕ, zero, suc, ◌+◌, ◌*◌, ◌<◌, ◌≤◌, cond, length, sym, subst, refl, arith, add-zero}
use Rattle.std.specs.Prelude.{◌==◌}
use Rattle.std.specs.List.{range_with_len, sum_by, count_by}
use Rattle.std.proofs.lemmas.Bool.Decides.{nat_tests}
use Rattle.std.proofs.lemmas.List.FromFn.{length-range_with_len}
use Rattle.std.proofs.lemmas.List.Sums.{sum_by-cons, count_by-le-length}
use Rattle.jls_partial.specs.Partial.{PartialPicture, readings_at}
use Rattle.jls_partial.specs.Status.{status_of}
use Rattle.jls_partial.specs.declared.status.Status.TheVariants.{Settled}
use Rattle.jls_partial.proofs.Statuses.{settled_by, one_reading}
use Rattle.jls_report.specs.Lines.{lines, is_settled_line}
use Rattle.jls_report.specs.Ranges.{FullCountIsSettled}

-- ---- sums over a range, of numbers of at most m

one_less : (f : ℕ → ℕ) (a n : ℕ) → sum_by f (range_with_len a (suc n)) ≡ f a + sum_by f (range_with_len (a + 1) n)
one_less f a n = sum_by-cons f a (range_with_len (a + 1) n)

-- numbers of at most m add up to at most n times m
at_most : (f : ℕ → ℕ) (m : ℕ) → ((x : ℕ) → f x ≤ m) → (a n : ℕ) → sum_by f (range_with_len a n) ≤ n * m
at_most f m le a zero = omega arith
at_most f m le a (suc n) = let step = one_less f a n in let here = le a in let rest = at_most f m le (a + 1) n in
    omega (arith, step, here, rest)

-- the sum is as large as can be: each number is
each_is : (f : ℕ → ℕ) (m : ℕ) → ((x : ℕ) → f x ≤ m) → (a n : ℕ) → sum_by f (range_with_len a n) ≡ n * m → (k : ℕ) → k < n → f (a + k) ≡ m
each_is f m le a zero e k lt = absurd (omega (arith, lt))
each_is f m le a (suc n) e zero lt =
    let step = one_less f a n in
    let here = le a in
    let rest = at_most f m le (a + 1) n in
    let first : f a ≡ m = omega (arith, step, here, rest, e) in
    subst (λ (x : ℕ). f x ≡ m) (sym (add-zero a)) first
each_is f m le a (suc n) e (suc k) lt =
    let step = one_less f a n in
    let here = le a in
    let rest = at_most f m le (a + 1) n in
    let others : sum_by f (range_with_len (a + 1) n) ≡ n * m = omega (arith, step, here, rest, e) in
    let same : a + 1 + k ≡ a + suc k = omega arith in
    subst (λ (x : ℕ). f x ≡ m) same (each_is f m le (a + 1) n others k (omega (arith, lt)))

-- where each number is as large as can be, the sum is
sum_is : (f : ℕ → ℕ) (m a n : ℕ) → ((x : ℕ) → a ≤ x → x < a + n → f x ≡ m) → sum_by f (range_with_len a n) ≡ n * m
sum_is f m a zero each = omega arith
sum_is f m a (suc n) each =
    let step = one_less f a n in
    let here = each a (omega arith) (omega arith) in
    let rest = sum_is f m (a + 1) n (λ x ge lt. each x (omega (arith, ge)) (omega (arith, lt))) in
    omega (arith, step, here, rest)

from_zero : (f : ℕ → ℕ) (m : ℕ) → ((x : ℕ) → f x ≤ m) → (n : ℕ) → sum_by f (range_with_len 0 n) ≡ n * m → (k : ℕ) → k < n → f k ≡ m
from_zero f m le n e k lt = let same : 0 + k ≡ k = omega arith in subst (λ (x : ℕ). f x ≡ m) same (each_is f m le 0 n e k lt)

-- n numbers m add up to n times m
to_zero : (f : ℕ → ℕ) (m n : ℕ) → ((k : ℕ) → k < n → f k ≡ m) → sum_by f (range_with_len 0 n) ≡ n * m
to_zero f m n each = sum_is f m 0 n (λ x ge lt. each x (omega (arith, lt)))

-- ---- one line

abbrev counted : ℕ → ℕ
counted n = cond (n == 1) 1 0

at_most_one : (n : ℕ) → counted n ≤ 1
at_most_one n = grind (arith, nat_tests)

-- what counts as one reading is one
is_one : (n : ℕ) → counted n ≡ 1 → n ≡ 1
is_one n e = grind (arith, nat_tests, e)

module _ (p : PartialPicture) where
  abbrev settled_lines : ℕ → ℕ
  settled_lines component = count_by (is_settled_line p component) (lines p.shape)

  few_lines : (component : ℕ) → settled_lines component ≤ p.shape.height
  few_lines component = subst (λ (n : ℕ). settled_lines component ≤ n) (length-range_with_len 0 p.shape.height)
      (count_by-le-length (is_settled_line p component) (lines p.shape))

  -- where all lines of a component are counted as settled, each is
  of_component : (component : ℕ) → settled_lines component ≡ p.shape.height → (line : ℕ) → line < p.shape.height
      → status_of (readings_at p component line) ≡ Settled
  of_component component e line lt =
      let f : ℕ → ℕ = λ l. cond (is_settled_line p component l) 1 0 in
      let sum : sum_by f (range_with_len 0 p.shape.height) ≡ p.shape.height = e in
      let all : sum_by f (range_with_len 0 p.shape.height) ≡ p.shape.height * 1 = omega (arith, sum) in
      settled_by (readings_at p component line)
      (is_one (length (readings_at p component line))
      (from_zero f 1 (λ l. at_most_one (length (readings_at p component l))) p.shape.height all line lt))

  -- where each line of a component is settled, all are counted
  to_component : (component : ℕ) → ((line : ℕ) → line < p.shape.height → status_of (readings_at p component line) ≡ Settled)
      → settled_lines component ≡ p.shape.height
  to_component component each =
      let f : ℕ → ℕ = λ l. cond (is_settled_line p component l) 1 0 in
      let all : sum_by f (range_with_len 0 p.shape.height) ≡ p.shape.height * 1 =
      to_zero f 1 p.shape.height (λ l lt. subst (λ (n : ℕ). counted n ≡ 1) (sym (one_reading (readings_at p component l) (each l lt)))
      refl) in
      let sum : sum_by f (range_with_len 0 p.shape.height) ≡ p.shape.height = omega (arith, all) in
      sum

-- the law: all lines are counted as settled exactly where each is
pub full_count : FullCountIsSettled
full_count p = (
  λ e component within. of_component p component
      (from_zero (settled_lines p) p.shape.height (few_lines p) (length p.shape.ids) e component within),
  λ settled. to_zero (settled_lines p) p.shape.height (length p.shape.ids)
      (λ component within. to_component p component (settled component within)),
)
