use Rattle.jls_interval.specs.Place.{above_of}
use Rattle.jls_interval.proofs.LineSamples.{after_sample}
use Rattle.jls_interval.proofs.place.Place.neighbours_after.Goals as goal

pub returns-clause-following : goal.returns-clause-following
returns-clause-following c = λ width line at is room.
    after_sample width (above_of c.args.self.now) line c.args.near c.args.value c.sample_at.result c.args.x at is room c.sample_at.ensures
