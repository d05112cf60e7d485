use Rattle.jls_splice_laws.proofs.DoneRuns.{spliced_runs_hand_out_the_file}
use Rattle.jls_splice_laws.proofs.runs.spliced_runs_hand_out_the_file.Goals as goal

pub returns : goal.returns
returns c = spliced_runs_hand_out_the_file c.whole_files_survive.ensures.faultless
