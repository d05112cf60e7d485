use Rattle.jls_run_laws.proofs.JoinThenWrite.{written_text_joins_are_the_picture, written_text_joins_read_as_the_picture}
use Rattle.jls_run_laws.proofs.JoinThenWrite.{written_text_joins_are_settled}
use Rattle.jls_run_laws.proofs.runs.written_text_joins_read_as_the_picture.Goals as goal

pub returns-clause-written : goal.returns-clause-written
returns-clause-written c = written_text_joins_are_the_picture

pub returns-clause-reads : goal.returns-clause-reads
returns-clause-reads c = written_text_joins_read_as_the_picture

pub returns-clause-settled : goal.returns-clause-settled
returns-clause-settled c = written_text_joins_are_settled
