use Rattle.jls_splice_laws.proofs.HeldFiles.{files_by_line_are_collected, took_files_holds_exactly}
use Rattle.jls_splice_laws.proofs.splicing.took_files_are_held.Goals as goal

pub returns-clause-exactly : goal.returns-clause-exactly
returns-clause-exactly c = took_files_holds_exactly

pub returns-clause-by_line : goal.returns-clause-by_line
returns-clause-by_line c = files_by_line_are_collected c.strict_files_are_collected.ensures
