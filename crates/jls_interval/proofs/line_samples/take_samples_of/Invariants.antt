use Rattle.std.proofs.Common.{◌≡◌, ◌+◌, ◌-◌, ◌<◌, length}
use Rattle.std.specs.Prelude.{pos, ◌-ℤ◌}
use Rattle.jls_context.specs.Mode.{IsQuantizedGradient, quantized_gradient}
use Rattle.jls_interval.specs.CodeLengths.{AreLengths}
use Rattle.jls_interval.specs.Place.{above_of}
use Rattle.jls_interval.specs.OpenEvents.{now_at}
use Rattle.jls_interval.specs.LineSamples.{TakesInLine}
use Rattle.jls_interval.specs.declared.line_reader.OpenEvent.TheVariants.{NotBegun}
use Rattle.jls_interval.proofs.line_samples.take_samples_of.Given as goal

-- before each sample: those before it are taken, and these are its neighbours
abbrev pub invariant-columns : goal.invariant-columns
invariant-columns l = record {
  columns : length l.reader.line.items + 1 < l.reader.width;
  lengths : AreLengths l.reader.coder.cells.parameters l.lengths;
  width : l.reader.width ≡ l.initial.reader.width;
  parameters : l.reader.coder.cells.parameters ≡ l.initial.reader.coder.cells.parameters;
  open_event : l.reader.open_event ≡ NotBegun;
  near : l.near ≡ now_at l.reader.width (above_of l.place) l.reader.line.items;
  second : l.second ≡ quantized_gradient l.reader.coder.cells.parameters (pos l.near.rb -ℤ pos l.near.rc);
  step : IsQuantizedGradient l.second;
  taking : TakesInLine l.place.component (above_of l.place) l.initial.reader l.reader l.initial.chunk l.chunk;
}

abbrev pub decreases-columns : goal.decreases-columns
decreases-columns l = l.reader.width - length l.reader.line.items
