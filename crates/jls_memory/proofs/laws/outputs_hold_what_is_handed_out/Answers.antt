use Rattle.jls_memory.proofs.Handed.{outputs_hold}
use Rattle.jls_memory.proofs.laws.outputs_hold_what_is_handed_out.Goals as goal

pub returns : goal.returns
returns c = outputs_hold
