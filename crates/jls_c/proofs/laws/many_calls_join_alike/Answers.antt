use Rattle.jls_c.proofs.CallLaws.{many_calls_join_alike, many_calls_and_runs_join_alike}
use Rattle.jls_c.proofs.laws.many_calls_join_alike.Goals as goal

pub returns-clause-calls : goal.returns-clause-calls
returns-clause-calls c = many_calls_join_alike

pub returns-clause-runs : goal.returns-clause-runs
returns-clause-runs c = many_calls_and_runs_join_alike
