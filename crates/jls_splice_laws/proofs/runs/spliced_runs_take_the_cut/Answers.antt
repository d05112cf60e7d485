use Rattle.jls_splice_laws.proofs.DoneRuns.{spliced_runs_take_the_cut}
use Rattle.jls_splice_laws.proofs.runs.spliced_runs_take_the_cut.Goals as goal

pub returns : goal.returns
returns c = spliced_runs_take_the_cut
