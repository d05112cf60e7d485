use Rattle.std.proofs.Common.{◌≡◌, ◌-◌, map}
use Rattle.std.specs.List.{flat_map, AllByRecursion, range_with_len}
use Rattle.jls_interval.specs.Lines.{IsLine}
use Rattle.jls_write.specs.WrittenFile as spec
use Rattle.jls_write.proofs.intervals.lines_of_rows.Given as goal

-- the lines of the rows so far are there
abbrev pub invariant-loop-row : goal.invariant-loop-row
invariant-loop-row l = record {
  lines : map (λ line. line.now) l.lines.items
      ≡ flat_map (spec.row_lines l.part.picture.now (range_with_len l.part.first l.part.count)) (range_with_len l.first (l.row - l.first));
  each : AllByRecursion (IsLine l.part.options.params l.part.picture.now.shape.width) (map (λ line. line.now) l.lines.items);
}
