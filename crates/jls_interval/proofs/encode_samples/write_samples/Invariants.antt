use Rattle.std.proofs.Common.{◌≡◌, ◌-◌, ◌<◌, ◌≤◌, length}
use Rattle.std.specs.Prelude.{pos, ◌-ℤ◌}
use Rattle.jls_context.specs.Mode.{IsQuantizedGradient, quantized_gradient}
use Rattle.jls_interval.specs.Events.{neighbours}
use Rattle.jls_interval.specs.Place.{above_of}
use Rattle.jls_interval.specs.Encoding.{WritesColumns, written_by}
use Rattle.jls_interval.proofs.encode_samples.write_samples.Given as goal

-- before each sample: those before it are written, and these are its neighbours
abbrev pub invariant-columns : goal.invariant-columns
invariant-columns l = record {
  from : l.x ≤ l.column;
  within : l.column < length l.line;
  parameters : l.encoder.coder.cells.parameters ≡ l.initial.encoder.coder.cells.parameters;
  near : l.near ≡ neighbours (length l.line) (above_of l.place) l.line l.column;
  second : l.second ≡ quantized_gradient l.encoder.coder.cells.parameters (pos l.near.rb -ℤ pos l.near.rc);
  step : IsQuantizedGradient l.second;
  written : WritesColumns l.initial.encoder.coder.cells.parameters l.place.component (above_of l.place) l.line l.x l.column
      (written_by l.initial.encoder) (written_by l.encoder);
}

abbrev pub decreases-columns : goal.decreases-columns
decreases-columns l = length l.line - l.column
