use Rattle.std.proofs.Common.{◌≡◌, ◌++◌, map}
use Rattle.std.specs.Vec.Iter.{into_iter_items}
use Rattle.jls_interval.specs.FinishedLines.{in_order}
use Rattle.jls_interval.proofs.finished_lines.joined.Given as goal

-- the lines so far, and those of the blocks that are left
abbrev pub invariant-loop-block : goal.invariant-loop-block
invariant-loop-block l =
    map (λ v. v.items) l.all.items ++ in_order (into_iter_items l.block-iterator) ≡ in_order l.fn.blocks.items
