use Rattle.std.proofs.Common.{◌≡◌, ◌*◌, ◌++◌, length, drop}
use Rattle.std.specs.List.{flat_map, range_with_len}
use Rattle.jls_c.specs.Lines.{shown_component}
use Rattle.jls_c.proofs.samples.put_samples.Given as goal

abbrev pub invariant-loop-component : goal.invariant-loop-component
invariant-loop-component l =
    let size = l.partial.shape.height * l.partial.shape.width in
    record {
      long : length (flat_map (shown_component l.partial) (range_with_len 0 l.component)) ≡ l.component * size;
      out : l.out ≡ flat_map (shown_component l.partial) (range_with_len 0 l.component) ++ drop (l.component * size) l.initial.out;
    }
