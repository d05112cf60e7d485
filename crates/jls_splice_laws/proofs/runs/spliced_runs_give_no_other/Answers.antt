use Rattle.jls_splice_laws.proofs.DoneRuns.{spliced_runs_give_no_other}
use Rattle.jls_splice_laws.proofs.runs.spliced_runs_give_no_other.Goals as goal

pub returns : goal.returns
returns c = spliced_runs_give_no_other c.whole_files_survive.ensures.faultless c.spliced_copies_give_no_other.ensures
