use Rattle.jls_splice_laws.proofs.WholeFiles.{files_by_line_are_whole, whole_files_are_faultless, whole_files_survive}
use Rattle.jls_splice_laws.proofs.settled.whole_files_survive.Goals as goal

pub returns-clause-lines : goal.returns-clause-lines
returns-clause-lines c = whole_files_survive

pub returns-clause-faultless : goal.returns-clause-faultless
returns-clause-faultless c = whole_files_are_faultless

pub returns-clause-by_line : goal.returns-clause-by_line
returns-clause-by_line c = files_by_line_are_whole
