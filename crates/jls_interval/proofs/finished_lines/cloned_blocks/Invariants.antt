use Rattle.std.proofs.Common.{◌≡◌, take}
use Rattle.jls_interval.specs.FinishedLines.{in_order}
use Rattle.jls_interval.proofs.finished_lines.cloned_blocks.Given as goal

-- the blocks so far are cloned
abbrev pub invariant-loop-block : goal.invariant-loop-block
invariant-loop-block l = in_order l.clones.items ≡ in_order (take l.block-index l.blocks)
