-- What stands at the start of bits that are read: a run, a sample of regular mode, a sample that interrupts a run.
use Rattle.std.specs.Prelude.{◌≡◌, ℕ, ◌+◌, ◌<◌, ◌≤◌, Bool, true, List, ◌++◌, replicate}
use Rattle.jls_values.specs.Params.{CodingParameters}
use Rattle.jls_context.specs.declared.mode.Neighbours.{Neighbours}
use Rattle.jls_context.specs.declared.regular.Cell.{Cell}
use Rattle.jls_context.specs.declared.interruption.RunCell.{RunCell}
use Rattle.jls_interval.specs.Runs.{Blocks, blocks}
use Rattle.jls_interval.specs.Code.{regular_bits, run_to_end_bits, interrupted_run_bits, interrupting_bits}

-- no run stands at the start, neither one of w0 columns to the end of the line nor one that is interrupted before, which begins at
-- RUNindex r0
abbrev pub NoRun : ℕ → ℕ → List Bool → Type 0
NoRun r0 w0 given =
    ((rest : List Bool) → given ≡ run_to_end_bits (blocks r0 w0) ++ rest → ⊥)
    × ((c : ℕ) (rest : List Bool) → c < w0 → given ≡ interrupted_run_bits (blocks r0 c) rest → ⊥)

-- no sample of regular mode stands at the start
abbrev pub NoSample : CodingParameters → Cell → Neighbours → List Bool → Type 0
NoSample p cell near given =
    (sample : ℕ) (rest : List Bool) → sample ≤ p.maxval → given ≡ regular_bits p cell near sample ++ rest → ⊥

-- no sample that can interrupt a run stands at the start, after a count of so many bits
abbrev pub NoInterruption : CodingParameters → RunCell → Neighbours → ℕ → List Bool → Type 0
NoInterruption p cell near order given =
    (sample : ℕ) (rest : List Bool) → sample ≤ p.maxval → (sample ≡ near.ra → ⊥)
    → given ≡ interrupting_bits p cell near order sample ++ rest → ⊥

-- so many more full blocks before these
abbrev pub after_blocks : ℕ → Blocks → Blocks
after_blocks full b = record { full_blocks = full + b.full_blocks; run_index = b.run_index; remaining = b.remaining }

-- of a run from RUNindex r0 on, with w0 columns left in the line, some full blocks were read; RUNindex is r now, w columns are left
pub record Taken (r0 w0 : ℕ) (given : List Bool) (r w : ℕ) (unread : List Bool) : Type 0 where
  pub begins_within : r0 ≤ 31
  pub within : r ≤ 31
  pub full_blocks : ℕ
  pub taken : ℕ
  pub total : w0 ≡ taken + w
  pub blocks_are : (n : ℕ) → blocks r0 (taken + n) ≡ after_blocks full_blocks (blocks r n)
  pub bits_are : given ≡ replicate full_blocks true ++ unread
