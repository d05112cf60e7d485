use Rattle.jls_run_laws.proofs.CollectedRuns.{runs_are_collected, runs_are_collected_under}
use Rattle.jls_run_laws.proofs.JoinRuns.{runs_with_texts_hold_exactly, runs_hold_exactly_under, runs_under_sources_hand_out_the_same}
use Rattle.jls_run_laws.proofs.JoinRuns.{runs_with_texts_say_the_same, runs_with_texts_give_the_picture}
use Rattle.jls_run_laws.proofs.runs.joined_texts_give_the_picture.Goals as goal

pub returns-clause-collected : goal.returns-clause-collected
returns-clause-collected c = runs_are_collected

pub returns-clause-collected_under : goal.returns-clause-collected_under
returns-clause-collected_under c = runs_are_collected_under

pub returns-clause-exactly : goal.returns-clause-exactly
returns-clause-exactly c = runs_with_texts_hold_exactly

pub returns-clause-sources : goal.returns-clause-sources
returns-clause-sources c = runs_hold_exactly_under

pub returns-clause-same : goal.returns-clause-same
returns-clause-same c = runs_under_sources_hand_out_the_same

pub returns-clause-say_the_same : goal.returns-clause-say_the_same
returns-clause-say_the_same c = runs_with_texts_say_the_same

pub returns-clause-damaged : goal.returns-clause-damaged
returns-clause-damaged c = runs_with_texts_give_the_picture
