use Rattle.std.proofs.Common.{◌≡◌, ℕ, ◌+◌, ◌-◌, ◌<◌, ◌≤◌, ◌==◌, List, length, get_or, sym, ap, ◌∙◌, arith, refl, eq-eqb, inl, inr}
use Rattle.std.proofs.lemmas.Bool.{cases_lt, ne_eqb}
use Rattle.std.proofs.lemmas.List.Edits.{get_or-between, length-between}
use Rattle.std.proofs.lemmas.List.Sums.{prefix_len_is}
use Rattle.std.specs.List.{EachIndex, between, prefix_len}
use Rattle.jls_interval.proofs.encode_line.run_length.Goals as goal

-- a block of samples of one value after others of it
block_passed : (xs : List ℕ) (i v : ℕ) → i + 16 ≤ length xs
    → EachIndex (between i (i + 16) xs) (λ k. get_or (between i (i + 16) xs) k 0 ≡ v)
    → ((k : ℕ) → k < i → get_or xs k 0 ≡ v) → (k : ℕ) → k < i + 16 → get_or xs k 0 ≡ v
block_passed xs i v room block before k h = elim (cases_lt k i) [
  | inl l ↦ before k l
  | inr m ↦
      (let j : ℕ = k - i in let e : i + j ≡ k = omega arith in let n = length-between xs i (i + 16) room in
      let b = get_or-between xs i (i + 16) j 0 (omega arith) in
      sym (ap (λ z. get_or xs z 0) e) ∙ (sym b ∙ block j (omega arith)))
]

run_is : (xs : List ℕ) (n v : ℕ) → n ≤ length xs → ((k : ℕ) → k < n → get_or xs k 0 ≡ v) → (n < length xs → get_or xs n 0 ≡ v → ⊥)
    → n ≡ prefix_len (λ sample. sample == v) xs
run_is xs n v within passed stops =
    sym (prefix_len_is (λ sample. sample == v) xs n 0 within (λ k h. eq-eqb (get_or xs k 0) v (passed k h))
    (λ h. ne_eqb (get_or xs n 0) v (stops h)))

-- sixteen samples more have the value
pub loop-count-preserved : goal.loop-count-preserved
loop-count-preserved c = record {
  within = omega arith;
  passed = block_passed c.args.samples.now c.loop-count.count c.args.value (omega arith) (c.if-are_all.ensures refl)
      c.loop-count.invariant.passed;
}

pub returns-else-samples-count-clause-value : goal.returns-else-samples-count-clause-value
returns-else-samples-count-clause-value c =
    run_is c.args.samples.now c.loop-count-2.count c.args.value c.loop-count-2.invariant.within c.loop-count-2.invariant.passed
    (λ h. c.if-samples-count.false)

pub returns-after-loop-count-2-clause-value : goal.returns-after-loop-count-2-clause-value
returns-after-loop-count-2-clause-value c =
    run_is c.args.samples.now c.loop-count-2.count c.args.value c.loop-count-2.invariant.within c.loop-count-2.invariant.passed
    (λ h. absurd (omega arith))
