use Rattle.jls_pixel.specs.PixelReading.{KeepsShape, KeepsReading, pixels_left}
use Rattle.jls_pixel.proofs.pixel_reader.PixelReader.read_to_end.Given as goal

abbrev pub invariant-events : goal.invariant-events
invariant-events l = record {
  shape : KeepsShape l.initial.self l.self;
  reading : KeepsReading l.initial.self l.self;
}

abbrev pub decreases-events : goal.decreases-events
decreases-events l = pixels_left l.self
