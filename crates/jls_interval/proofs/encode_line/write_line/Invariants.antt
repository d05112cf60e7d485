use Rattle.std.proofs.Common.{◌≡◌, ◌-◌, length}
use Rattle.jls_interval.specs.Place.{above_of}
use Rattle.jls_interval.specs.Encoding.{written_by, WritesColumns}
use Rattle.jls_interval.proofs.encode_line.write_line.Given as goal

-- the columns before x are written
abbrev pub invariant-loop-x : goal.invariant-loop-x
invariant-loop-x l = record {
  parameters : l.encoder.coder.cells.parameters ≡ l.initial.encoder.coder.cells.parameters;
  written : WritesColumns l.initial.encoder.coder.cells.parameters l.place.component (above_of l.place) l.line 0 l.x
      (written_by l.initial.encoder) (written_by l.encoder);
}

abbrev pub decreases-loop-x : goal.decreases-loop-x
decreases-loop-x l = length l.line - l.x
