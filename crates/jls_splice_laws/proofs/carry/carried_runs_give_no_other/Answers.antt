use Rattle.jls_splice_laws.proofs.CarriedRuns.{carried_runs_give_no_other}
use Rattle.jls_splice_laws.proofs.carry.carried_runs_give_no_other.Goals as goal

pub returns : goal.returns
returns c = carried_runs_give_no_other c.settled_held_lines_are_the_picture.ensures.held c.judged_files_have_true_bytes.ensures
