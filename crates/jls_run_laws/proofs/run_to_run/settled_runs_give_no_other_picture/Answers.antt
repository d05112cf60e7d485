use Rattle.jls_run_laws.proofs.RunToRun.{settled_runs, written_runs}
use Rattle.jls_run_laws.proofs.run_to_run.settled_runs_give_no_other_picture.Goals as goal

pub returns-clause-joined : goal.returns-clause-joined
returns-clause-joined c = settled_runs c.done_joins_ran.ensures c.settled_joins_are_the_picture.ensures

pub returns-clause-written : goal.returns-clause-written
returns-clause-written c = written_runs c.done_writes_ran.ensures c.written_inputs_are_the_picture.ensures.written
