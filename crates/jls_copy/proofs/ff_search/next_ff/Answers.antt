use Rattle.std.proofs.Common.{◌≡◌, ℕ, ◌+◌, ◌<◌, ◌≤◌, eqb, length, get_or, arith, inl, inr}
use Rattle.std.proofs.lemmas.Bool.{cases_lt, eqb-true, eqb-false}
use Rattle.std.proofs.lemmas.Simd.{run_in_chunk_fails, run_in_chunk_stops}
use Rattle.jls_copy.proofs.ff_search.next_ff.Goals as goal

-- no byte before the first FF among the sixteen is FF
pub returns-then-before-lt-LANES-clause-passed : goal.returns-then-before-lt-LANES-clause-passed
returns-then-before-lt-LANES-clause-passed c = λ k from below is_ff. elim (cases_lt k c.loop-at.at) [
  | inl earlier ↦ c.loop-at.invariant.2 k from earlier is_ff
  | inr here ↦ (let other = run_in_chunk_fails (λ b. eqb b 255) c.args.bytes.now c.loop-at.at 16 c.count_before_ff-before.result 0
      (omega arith) c.count_before_ff-before.ensures k here below in
      eqb-false (get_or c.args.bytes.now k 0) 255 other is_ff)
]

-- the search among 16 bytes stopped before their end, so that it stopped at FF
pub returns-then-before-lt-LANES-clause-found : goal.returns-then-before-lt-LANES-clause-found
returns-then-before-lt-LANES-clause-found c = λ within.
    eqb-true (get_or c.args.bytes.now (c.loop-at.at + c.count_before_ff-before.result) 0) 255
    (run_in_chunk_stops (λ b. eqb b 255) c.args.bytes.now c.loop-at.at 16 c.count_before_ff-before.result 0 (omega arith)
    c.count_before_ff-before.ensures c.if-before-lt-LANES.true)

-- sixteen bytes more have no FF
pub loop-at-preserved : goal.loop-at-preserved
loop-at-preserved c =
    let room : c.loop-at.at + 16 ≤ length c.args.bytes.now = omega arith in
    let all : (k : ℕ) → c.args.from ≤ k → k < c.loop-at.at + 16 → get_or c.args.bytes.now k 0 ≡ 255 → ⊥ =
    λ k from below is_ff. elim (cases_lt k c.loop-at.at) [
      | inl earlier ↦ c.loop-at.invariant.2 k from earlier is_ff
      | inr here ↦ (let other = run_in_chunk_fails (λ b. eqb b 255) c.args.bytes.now c.loop-at.at 16 c.count_before_ff-before.result 0 room
          c.count_before_ff-before.ensures k here (omega arith) in
          eqb-false (get_or c.args.bytes.now k 0) 255 other is_ff)
    ] in
    (omega arith, room, all)
