use Rattle.std.proofs.Common.{◌≡◌, ◌*◌, ◌++◌, length, drop}
use Rattle.std.specs.List.{flat_map, range_with_len}
use Rattle.jls_c.specs.Lines.{shown_line}
use Rattle.jls_c.proofs.samples.put_component.Given as goal

abbrev pub invariant-loop-line : goal.invariant-loop-line
invariant-loop-line l = record {
  long : length (flat_map (shown_line l.partial l.component) (range_with_len 0 l.line)) ≡ l.line * l.partial.shape.width;
  out : l.out ≡ flat_map (shown_line l.partial l.component) (range_with_len 0 l.line)
      ++ drop (l.line * l.partial.shape.width) l.initial.out;
}
