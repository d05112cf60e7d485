use Rattle.jls_c.proofs.CallLaws.{calls_and_runs_join_alike}
use Rattle.jls_c.proofs.laws.calls_and_runs_join_alike.Goals as goal

pub returns : goal.returns
returns c = calls_and_runs_join_alike
