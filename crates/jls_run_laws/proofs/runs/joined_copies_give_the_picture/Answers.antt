use Rattle.jls_run_laws.proofs.JoinRuns.{runs_hold_exactly, runs_say_the_same, runs_give_the_picture}
use Rattle.jls_run_laws.proofs.runs.joined_copies_give_the_picture.Goals as goal

pub returns-clause-exactly : goal.returns-clause-exactly
returns-clause-exactly c = runs_hold_exactly

pub returns-clause-same : goal.returns-clause-same
returns-clause-same c = runs_say_the_same

pub returns-clause-damaged : goal.returns-clause-damaged
returns-clause-damaged c = runs_give_the_picture
