-- Where a longest range of missing lines ends.
use Rattle.std.proofs.Common.{◌≡◌, ℕ, zero, suc, ◌+◌, ◌-◌, ◌<◌, ◌≤◌, Bool, true, false, cond, ap, ◌∙◌, arith}
use Rattle.std.specs.List.{range_with_len, prefix_len}

-- exactly the first m of the numbers pass
pub prefix_is : (test : ℕ → Bool) (a n m : ℕ) → m ≤ n → ((k : ℕ) → a ≤ k → k < a + m → test k ≡ true) → (m < n → test (a + m) ≡ false)
    → prefix_len test (range_with_len a n) ≡ m
prefix_is test a zero m within all end = omega arith
prefix_is test a (suc n) zero within all end =
    let at : test a ≡ false = ap test (omega arith) ∙ end (omega arith) in
    ap (λ b. cond b (1 + prefix_len test (range_with_len (a + 1) n)) 0) at
prefix_is test a (suc n) (suc m) within all end =
    let here : test a ≡ true = all a (omega arith) (omega arith) in
    let rest : prefix_len test (range_with_len (a + 1) n) ≡ m =
    prefix_is test (a + 1) n m (omega arith) (λ k low high. all k (omega arith) (omega arith))
    (λ less. ap test (let same : a + 1 + m ≡ a + suc m = omega arith in same) ∙ end (omega arith)) in
    ap (λ b. cond b (1 + prefix_len test (range_with_len (a + 1) n)) 0) here ∙ ap (λ k. 1 + k) rest
    ∙ (let same : 1 + m ≡ suc m = omega arith in same)

-- the last of the numbers from `first` to `line`, where all before `line` pass and `line` does not, or is the end
pub range_end : (test : ℕ → Bool) (first line height : ℕ) → first < line → line ≤ height
    → ((k : ℕ) → first ≤ k → k < line → test k ≡ true) → (line < height → test line ≡ false)
    → line - 1 ≡ first + prefix_len test (range_with_len first (height - first)) - 1
range_end test first line height more within all end =
    let count : prefix_len test (range_with_len first (height - first)) ≡ line - first =
    prefix_is test first (height - first) (line - first) (omega arith) (λ k low high. all k low (omega arith))
    (λ less. ap test (let same : first + (line - first) ≡ line = omega arith in same) ∙ end (omega arith)) in
    omega (arith, count)
