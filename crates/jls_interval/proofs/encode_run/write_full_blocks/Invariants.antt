use Rattle.std.proofs.Common.{◌≡◌, ◌≤◌, ◌++◌, true, replicate}
use Rattle.jls_interval.specs.Runs.{blocks}
use Rattle.jls_interval.proofs.encode_run.write_full_blocks.Given as goal

-- the ones written and those of the columns left are all of them
abbrev pub invariant-loop-remaining : goal.invariant-loop-remaining
invariant-loop-remaining l = record {
  within : l.now ≤ 31;
  written : l.writer ++ replicate (blocks l.now l.remaining).full_blocks true ≡ l.initial.writer
      ++ replicate (blocks l.run_index l.count).full_blocks true;
  run_index : (blocks l.now l.remaining).run_index ≡ (blocks l.run_index l.count).run_index;
  remaining : (blocks l.now l.remaining).remaining ≡ (blocks l.run_index l.count).remaining;
}

abbrev pub decreases-loop-remaining : goal.decreases-loop-remaining
decreases-loop-remaining l = l.remaining
