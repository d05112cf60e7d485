use Rattle.std.proofs.Common.{add-one}
use Rattle.jls_interval.proofs.Runs.{full_fit}
use Rattle.jls_interval.proofs.laws.full_blocks_fit.Goals as goal

pub returns : goal.returns
returns c = λ r n. let h = full_fit r n in (h.0, rw add-one h.1)
