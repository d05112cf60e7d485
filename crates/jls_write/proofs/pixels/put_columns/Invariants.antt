use Rattle.std.proofs.Common.{◌≡◌, ◌+◌, ◌-◌, ◌*◌, ◌≤◌, ◌++◌, length, map}
use Rattle.std.specs.List.{flat_map, range_with_len}
use Rattle.jls_write.specs.Waiting.{column_bytes}
use Rattle.jls_write.proofs.pixels.put_columns.Given as goal

-- the columns so far are put
abbrev pub invariant-loop-column : goal.invariant-loop-column
invariant-loop-column l = record {
  items : l.bytes.items ≡ l.fn.bytes.items
      ++ flat_map (column_bytes l.wide (map (λ line. line.now) l.lines)) (range_with_len l.start (l.column - l.start));
  len : length l.bytes.items ≤ length l.fn.bytes.items + 8 * (l.column - l.start);
}
