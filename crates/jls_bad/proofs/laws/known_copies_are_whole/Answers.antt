use Rattle.jls_bad.proofs.WholeCopies.{are_as_many, whole_without, are_whole_without}
use Rattle.jls_bad.proofs.laws.known_copies_are_whole.Goals as goal

pub returns-clause-count : goal.returns-clause-count
returns-clause-count c = are_as_many

pub returns-clause-one : goal.returns-clause-one
returns-clause-one c = whole_without

pub returns-clause-all : goal.returns-clause-all
returns-clause-all c = are_whole_without
