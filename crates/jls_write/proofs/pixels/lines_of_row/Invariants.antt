use Rattle.std.proofs.Common.{◌≡◌, ℕ, ◌<◌, length, map}
use Rattle.std.specs.List.{range_with_len}
use Rattle.jls_write.specs.Picture.{line_of}
use Rattle.jls_write.specs.WholePictures.{IsLineIn}
use Rattle.jls_write.proofs.pixels.lines_of_row.Given as goal

-- the lines of the components so far are there
abbrev pub invariant-loop-component : goal.invariant-loop-component
invariant-loop-component l = record {
  lines : map (λ line. line.now) l.lines.items ≡ map (λ component. line_of l.picture component l.row) (range_with_len 0 l.component);
  len : length l.lines.items ≡ l.component;
  each : (k : ℕ) → k < l.component → IsLineIn l.picture.shape (line_of l.picture k l.row);
}
