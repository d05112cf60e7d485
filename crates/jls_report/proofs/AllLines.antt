-- The numbers of settled, missing and disputed lines add up to all lines.
use Rattle.std.proofs.Common.{◌≡◌, ℕ, ◌+◌, ◌*◌, cond, List, [], ◌∷◌, length, ap, ◌∙◌, arith}
use Rattle.std.specs.Prelude.{◌==◌, nat_lt}
use Rattle.std.specs.List.{sum_by, count_by}
use Rattle.std.proofs.lemmas.Bool.Decides.{nat_tests}
use Rattle.std.proofs.lemmas.List.FromFn.{length-range_with_len}
use Rattle.std.proofs.lemmas.List.Sums.{sum_by-cons}
use Rattle.jls_partial.specs.Partial.{PartialPicture}
use Rattle.jls_report.specs.Lines.{components, lines, reading_count, is_missing, is_settled_line, is_disputed}
use Rattle.jls_report.specs.Ranges.{CountsAreAllLines}

-- three sums, of which each three members make k
three_sums : (f g h : ℕ → ℕ) (k : ℕ) → ((x : ℕ) → f x + g x + h x ≡ k) → (xs : List ℕ)
    → sum_by f xs + sum_by g xs + sum_by h xs ≡ length xs * k
three_sums f g h k each [] = omega arith
three_sums f g h k each (x ∷ xs) = let rest = three_sums f g h k each xs in let here = each x in
    omega (arith, rest, here, sum_by-cons f x xs, sum_by-cons g x xs, sum_by-cons h x xs)

-- a number is one, none or above one
one_of_three : (n : ℕ) → cond (n == 1) 1 0 + cond (n == 0) 1 0 + cond (nat_lt 1 n) 1 0 ≡ 1
one_of_three n = grind (arith, nat_tests)

-- the settled, missing and disputed lines of a component are all of its lines
of_component : (p : PartialPicture) (component : ℕ)
    → count_by (is_settled_line p component) (lines p.shape) + count_by (is_missing p component) (lines p.shape)
    + count_by (is_disputed p component) (lines p.shape) ≡ p.shape.height
of_component p component =
    let all : count_by (is_settled_line p component) (lines p.shape) + count_by (is_missing p component) (lines p.shape)
    + count_by (is_disputed p component) (lines p.shape) ≡ length (lines p.shape) * 1 =
    three_sums (λ line. cond (is_settled_line p component line) 1 0) (λ line. cond (is_missing p component line) 1 0)
    (λ line. cond (is_disputed p component line) 1 0) 1
    (λ line. one_of_three (reading_count p component line)) (lines p.shape) in
    let size : length (lines p.shape) ≡ p.shape.height = length-range_with_len 0 p.shape.height in
    omega (arith, all, size)

-- the law: the three numbers add up to all lines
pub counts_are_all_lines : CountsAreAllLines
counts_are_all_lines p =
    three_sums (λ component. count_by (is_settled_line p component) (lines p.shape))
    (λ component. count_by (is_missing p component) (lines p.shape))
    (λ component. count_by (is_disputed p component) (lines p.shape)) p.shape.height (of_component p) (components p.shape)
    ∙ ap (λ n. n * p.shape.height) (length-range_with_len 0 (length p.shape.ids))
