use Rattle.std.proofs.Common.{◌≡◌, ◌-◌, ◌++◌, map}
use Rattle.std.specs.List.{AllByRecursion, range_with_len}
use Rattle.jls_interval.specs.Lines.{IsLine}
use Rattle.jls_write.specs.Picture.{line_of}
use Rattle.jls_write.proofs.intervals.push_row.Given as goal

-- the lines of the components so far are there
abbrev pub invariant-loop-component : goal.invariant-loop-component
invariant-loop-component l = record {
  lines : map (λ line. line.now) l.lines.items ≡ map (λ line. line.now) l.fn.lines.items
      ++ map (λ c. line_of l.part.picture.now c l.row) (range_with_len l.part.first (l.component - l.part.first));
  each : AllByRecursion (IsLine l.part.options.params l.part.picture.now.shape.width) (map (λ line. line.now) l.fn.lines.items)
      → AllByRecursion (IsLine l.part.options.params l.part.picture.now.shape.width) (map (λ line. line.now) l.lines.items);
}
