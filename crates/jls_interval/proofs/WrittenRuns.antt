-- The bits of a run, block by block, as they are written.
use Rattle.std.proofs.Common.{◌≡◌, ℕ, ◌-◌, ◌^◌, ◌<◌, ◌≤◌, Bool, true, List, [], ◌∷◌, ◌++◌, replicate, sym, ap, ◌∙◌, append_assoc}
use Rattle.std.proofs.lemmas.List.{append-nil}
use Rattle.jls_interval.specs.Runs.{run_order, Blocks, blocks}
use Rattle.jls_interval.specs.Code.{interrupted_run_bits}
use Rattle.jls_interval.proofs.Runs.{risen, blocks_step, blocks_none}

-- one full block more
module _ (r n : ℕ) (within : r ≤ 31) (full : 2 ^ run_order r ≤ n) where
  -- a one written, and the ones of the columns left, are the ones of all
  pub block_written : (before : List Bool)
      → (before ++ true ∷ []) ++ replicate (blocks (risen r) (n - 2 ^ run_order r)).full_blocks true ≡ before
      ++ replicate (blocks r n).full_blocks true
  block_written before =
      append_assoc before (true ∷ []) _ ∙ ap (λ (b : Blocks). before ++ replicate b.full_blocks true) (sym (blocks_step r n within full))

  pub block_run_index : (blocks (risen r) (n - 2 ^ run_order r)).run_index ≡ (blocks r n).run_index
  block_run_index = ap (λ (b : Blocks). b.run_index) (sym (blocks_step r n within full))

  pub block_remaining : (blocks (risen r) (n - 2 ^ run_order r)).remaining ≡ (blocks r n).remaining
  block_remaining = ap (λ (b : Blocks). b.remaining) (sym (blocks_step r n within full))

-- no full block more
module _ (r n : ℕ) (within : r ≤ 31) (short : n < 2 ^ run_order r) where
  pub no_block_written : (written before : List Bool) → written ++ replicate (blocks r n).full_blocks true ≡ before → written ≡ before
  no_block_written written before e =
      sym (append-nil written) ∙ ap (λ (b : Blocks). written ++ replicate b.full_blocks true) (sym (blocks_none r n within short)) ∙ e

  pub no_block_run_index : (index : ℕ) → (blocks r n).run_index ≡ index → r ≡ index
  no_block_run_index index e = ap (λ (b : Blocks). b.run_index) (sym (blocks_none r n within short)) ∙ e

  pub no_block_remaining : (rest : ℕ) → (blocks r n).remaining ≡ rest → n ≡ rest
  no_block_remaining rest e = ap (λ (b : Blocks). b.remaining) (sym (blocks_none r n within short)) ∙ e

-- the sample after it
pub interruption_then : (run : Blocks) (rest : List Bool) → interrupted_run_bits run [] ++ rest ≡ interrupted_run_bits run rest
interruption_then run rest = ap (λ z. z ++ rest) (append-nil _)
