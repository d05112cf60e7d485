use Rattle.jls_run_laws.proofs.JoinRuns.{runs_tell_of_lines}
use Rattle.jls_run_laws.proofs.runs.joined_lines_are_reported.Goals as goal

pub returns : goal.returns
returns c = runs_tell_of_lines
