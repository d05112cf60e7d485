use Rattle.std.proofs.Common.{◌≡◌, ℕ, ◌-◌, ◌^◌, ◌<◌, ◌≤◌, ◌∷◌, [], ◌++◌, true, replicate, ap, ◌∙◌, subst}
use Rattle.jls_interval.specs.Runs.{run_order, Blocks, blocks, run_index_raised}
use Rattle.jls_interval.proofs.WrittenRuns.{block_written, block_run_index, block_remaining, no_block_written, no_block_run_index}
use Rattle.jls_interval.proofs.WrittenRuns.{no_block_remaining}
use Rattle.jls_interval.proofs.encode_run.write_full_blocks.Goals as goal

-- what a block leaves, where RUNindex and the columns are computed
left_is : (r n now rest : ℕ) → now ≡ run_index_raised r 1 → rest ≡ 2 ^ run_order r
    → blocks now (n - rest) ≡ blocks (run_index_raised r 1) (n - 2 ^ run_order r)
left_is r n now rest a b = ap (λ z. blocks z (n - rest)) a ∙ ap (λ z. blocks (run_index_raised r 1) (n - z)) b

-- one full block more is written
pub loop-remaining-preserved : goal.loop-remaining-preserved
loop-remaining-preserved c =
    let r = c.loop-remaining.now in let n = c.loop-remaining.remaining in let i = c.loop-remaining.invariant in
    let full : 2 ^ run_order r ≤ n = subst (λ z. z ≤ n) c.block_columns.ensures c.loop-remaining-test.true in
    let left = left_is r n c.raised-now.result c.block_columns-remaining.result c.raised-now.ensures.value
    c.block_columns-remaining.ensures in
    record {
      within = c.raised-now.ensures.at_most;
      written = ap (λ z. z ++ replicate (blocks c.raised-now.result (n - c.block_columns-remaining.result)).full_blocks true)
          c.in_ok-push_bit.ensures.ok ∙ ap (λ (b : Blocks). (c.loop-remaining.writer ++ true ∷ []) ++ replicate b.full_blocks true) left
          ∙ block_written r n i.within full c.loop-remaining.writer ∙ i.written;
      run_index = ap (λ (b : Blocks). b.run_index) left ∙ block_run_index r n i.within full ∙ i.run_index;
      remaining = ap (λ (b : Blocks). b.remaining) left ∙ block_remaining r n i.within full ∙ i.remaining;
    }

pub returns-clause-written : goal.returns-clause-written
returns-clause-written c = no_block_written _ _ c.loop-remaining.invariant.within
    (subst (λ z. c.loop-remaining.remaining < z) c.block_columns.ensures c.loop-remaining-test.false) _ _ c.loop-remaining.invariant.written

pub returns-clause-run_index : goal.returns-clause-run_index
returns-clause-run_index c = no_block_run_index _ _ c.loop-remaining.invariant.within
    (subst (λ z. c.loop-remaining.remaining < z) c.block_columns.ensures c.loop-remaining-test.false) _ c.loop-remaining.invariant.run_index

pub returns-clause-remaining : goal.returns-clause-remaining
returns-clause-remaining c = no_block_remaining _ _ c.loop-remaining.invariant.within
    (subst (λ z. c.loop-remaining.remaining < z) c.block_columns.ensures c.loop-remaining-test.false) _ c.loop-remaining.invariant.remaining
