use Rattle.std.proofs.Common.{◌≡◌, ◌+◌, ◌*◌, ◌≤◌, ◌++◌, length, map, take}
use Rattle.jls_write.specs.Waiting.{column_bytes}
use Rattle.jls_write.proofs.pixels.put_column.Given as goal

-- the samples of the lines so far are put
abbrev pub invariant-loop-line : goal.invariant-loop-line
invariant-loop-line l = record {
  items : l.bytes.items ≡ l.fn.bytes.items ++ column_bytes l.wide (take l.line-index (map (λ line. line.now) l.lines)) l.column;
  len : length l.bytes.items ≤ length l.fn.bytes.items + 2 * l.line-index;
}
