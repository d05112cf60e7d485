use Rattle.std.proofs.Common.{◌≡◌, map}
use Rattle.std.specs.Vec.Iter.{into_iter_items}
use Rattle.jls_copy.specs.Findings.{with_readings}
use Rattle.jls_copy.specs.Fits.{FitFrom}
use Rattle.jls_copy.specs.Pieces.{placed}
use Rattle.jls_copy.proofs.findings.take_lines.Given as goal

-- the lines that are left fit, and lead to the same picture
abbrev pub invariant-loop-line : goal.invariant-loop-line
invariant-loop-line l = record {
  shape_is : l.partial.shape ≡ l.fn.partial.shape;
  fit : FitFrom l.partial.shape l.components l.row l.place (map (λ line. line.items) (into_iter_items l.line-iterator));
  leads : with_readings l.partial (placed l.components l.row l.place (map (λ line. line.items) (into_iter_items l.line-iterator)))
      ≡ with_readings l.fn.partial (placed l.components l.first_row 0 (map (λ line. line.items) l.fn.lines.items));
}
