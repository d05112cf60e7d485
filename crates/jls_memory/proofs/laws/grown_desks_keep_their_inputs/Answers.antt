use Rattle.jls_memory.proofs.Grown.{grown}
use Rattle.jls_memory.proofs.laws.grown_desks_keep_their_inputs.Goals as goal

pub returns : goal.returns
returns c = grown
