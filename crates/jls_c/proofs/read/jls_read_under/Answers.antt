use Rattle.jls_c.proofs.Known.{of_read}
use Rattle.jls_c.proofs.read.jls_read_under.Goals as goal

pub returns-in-Ok-clause-answers : goal.returns-in-Ok-clause-answers
returns-in-Ok-clause-answers c = of_read c.show.result c.show.ensures.known
