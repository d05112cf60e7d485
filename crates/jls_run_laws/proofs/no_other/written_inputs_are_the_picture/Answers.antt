use Rattle.jls_run_laws.proofs.WrittenInputs.{written_inputs_are_the_picture, written_inputs_read_as_the_picture}
use Rattle.jls_run_laws.proofs.no_other.written_inputs_are_the_picture.Goals as goal

pub returns-clause-written : goal.returns-clause-written
returns-clause-written c = written_inputs_are_the_picture

pub returns-clause-reads : goal.returns-clause-reads
returns-clause-reads c = written_inputs_read_as_the_picture
