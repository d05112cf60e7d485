use Rattle.jls_splice_laws.proofs.ProfileFiles.{files_by_line_give_the_same, other_files_are_by_line, strict_files_give_as_copies}
use Rattle.jls_splice_laws.proofs.by_line.files_by_line_give_the_same.Goals as goal

pub returns-clause-as_copies : goal.returns-clause-as_copies
returns-clause-as_copies c = strict_files_give_as_copies

pub returns-clause-by_line : goal.returns-clause-by_line
returns-clause-by_line c = other_files_are_by_line

pub returns-clause-same : goal.returns-clause-same
returns-clause-same c = files_by_line_give_the_same
