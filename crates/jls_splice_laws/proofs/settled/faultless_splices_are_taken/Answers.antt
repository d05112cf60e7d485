use Rattle.jls_splice_laws.proofs.TakenFiles.{faultless_splices_are_taken, searched_files_are_taken}
use Rattle.jls_splice_laws.proofs.settled.faultless_splices_are_taken.Goals as goal

pub returns-clause-taken : goal.returns-clause-taken
returns-clause-taken c = faultless_splices_are_taken

pub returns-clause-searched : goal.returns-clause-searched
returns-clause-searched c = searched_files_are_taken c.searches_come_to_each_splice.ensures
