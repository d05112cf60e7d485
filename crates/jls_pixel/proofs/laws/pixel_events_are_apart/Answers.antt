use Rattle.jls_pixel.proofs.EventsApart.{events_apart}
use Rattle.jls_pixel.proofs.laws.pixel_events_are_apart.Goals as goal

pub returns : goal.returns
returns c = events_apart
