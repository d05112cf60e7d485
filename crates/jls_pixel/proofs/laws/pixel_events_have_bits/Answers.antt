use Rattle.jls_pixel.proofs.EventBits.{events_some}
use Rattle.jls_pixel.proofs.laws.pixel_events_have_bits.Goals as goal

pub returns : goal.returns
returns c = events_some
