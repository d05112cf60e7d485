use Rattle.jls_file_laws.proofs.Covering as covering
use Rattle.jls_file_laws.proofs.laws.intervals_are_rows.Goals as goal

pub returns : goal.returns
returns c = covering.intervals_are_rows
