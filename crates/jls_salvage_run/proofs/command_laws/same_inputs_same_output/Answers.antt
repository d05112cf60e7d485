use Rattle.jls_salvage_run.proofs.WholeRuns.{runs_agree}
use Rattle.jls_salvage_run.proofs.command_laws.same_inputs_same_output.Goals as goal

pub returns : goal.returns
returns c = runs_agree c.texts_are_apart.ensures.apart c.bytes_decide.ensures c.same_members_same_join.ensures.whole
