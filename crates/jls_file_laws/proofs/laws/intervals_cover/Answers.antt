use Rattle.jls_file_laws.proofs.Covering as covering
use Rattle.jls_file_laws.proofs.laws.intervals_cover.Goals as goal

pub returns-clause-cover : goal.returns-clause-cover
returns-clause-cover c = covering.intervals_cover

pub returns-clause-contains : goal.returns-clause-contains
returns-clause-contains c = covering.contains_the_picture
