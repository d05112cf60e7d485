use Rattle.jls_interval.proofs.EventsApart.{j_small}
use Rattle.jls_pixel.proofs.run_index.run_order.Goals as goal

pub returns-clause-at_most : goal.returns-clause-at_most
returns-clause-at_most c = j_small c.from.result
