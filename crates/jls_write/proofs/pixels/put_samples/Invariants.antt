use Rattle.std.proofs.Common.{◌≡◌, ◌+◌, ◌-◌, ◌*◌, ◌≤◌, ◌++◌, length, get_or}
use Rattle.std.specs.List.{flat_map, range_with_len}
use Rattle.jls_write.specs.Pnm.{sample_bytes}
use Rattle.jls_write.proofs.pixels.put_samples.Given as goal

-- the samples so far are put
abbrev pub invariant-loop-column : goal.invariant-loop-column
invariant-loop-column l = record {
  items : l.bytes.items ≡ l.fn.bytes.items
      ++ flat_map (λ column. sample_bytes l.wide (get_or l.line column 0)) (range_with_len l.start (l.column - l.start));
  len : length l.bytes.items ≤ length l.fn.bytes.items + 2 * (l.column - l.start);
}
