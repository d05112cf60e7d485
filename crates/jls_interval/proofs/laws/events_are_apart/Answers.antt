use Rattle.jls_interval.proofs.EventsApart.{events_apart}
use Rattle.jls_interval.proofs.laws.events_are_apart.Goals as goal

pub returns : goal.returns
returns c = events_apart
