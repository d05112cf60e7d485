-- Bytes of places that are marked one after another.
use Rattle.std.proofs.Common.{◌≡◌, ℕ, ◌<◌, ◌≤◌, ◌∙◌, Bool, true, false, ◌||◌, ◌&&◌, leb, ltb, List, ◌++◌, length, get_or, take, refl, sym, ap, arith, ⊎_elim}
use Rattle.std.proofs.lemmas.Bool.{false≢true, cases_lt}
use Rattle.std.proofs.lemmas.Bool.Decides.{nat_tests}
use Rattle.std.proofs.lemmas.List.{get_or-take, get_or_append_left}

leb_true : (m n : ℕ) → m ≤ n → leb m n ≡ true
leb_true m n h = grind (arith, nat_tests)

leb_false : (m n : ℕ) → n < m → leb m n ≡ false
leb_false m n h = grind (arith, nat_tests)

ltb_false : (m n : ℕ) → n ≤ m → ltb m n ≡ false
ltb_false m n h = grind (arith, nat_tests)

-- of a place that begins in a marked run, what stands behind the run has to be marked alone
pub behind_run : (old : Bool) (at from until begin end : ℕ) → (from ≤ at → at < until → old ≡ true) → from ≤ begin → begin ≤ until → (old || (leb until at && ltb at end)) ≡ (old || (leb begin at && ltb at end))
behind_run true at from until begin end marked h l = refl
behind_run false at from until begin end marked h l =
    ap (λ b. b && ltb at end) (⊎_elim
    (λ k. ⊎_elim (λ m. leb_false until at k ∙ sym (leb_false begin at (omega (arith, m, h)))) (λ m. absurd (false≢true (marked m k))) (cases_lt at from))
    (λ k. leb_true until at k ∙ sym (leb_true begin at (omega (arith, k, l)))) (cases_lt at until))

-- the end of a loop over a range, which may be empty
pub range_end : (k begin end at : ℕ) → begin ≤ at → end ≤ at → (begin ≤ end → at ≤ end) → (end ≤ begin → at ≡ begin) → (leb begin k && ltb k at) ≡ (leb begin k && ltb k end)
range_end k begin end at h l full none =
    ⊎_elim (λ m. ap (λ b. b && ltb k at) (leb_false begin k m) ∙ sym (ap (λ b. b && ltb k end) (leb_false begin k m)))
    (λ m. ap (λ b. leb begin k && b) (⊎_elim (λ n. ltb_false k at (omega (arith, m, none (omega (arith, n)))) ∙ sym (ltb_false k end (omega (arith, m, n))))
    (λ n. ap (ltb k) (omega (arith, l, full n))) (cases_lt end begin)))
    (cases_lt k begin)

-- what a write to the front of a list leaves there
pub front_kept : (n : ℕ) (xs ys : List Bool) (at : ℕ) → at < n → at < length xs → get_or (take n (xs ++ ys)) at false ≡ get_or xs at false
front_kept n xs ys at h l = get_or-take n (xs ++ ys) at false h ∙ get_or_append_left xs ys false at l
