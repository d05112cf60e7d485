use Rattle.jls_search.proofs.FoundFiles.{searches_come_to_each_splice}
use Rattle.jls_search.proofs.laws.searches_come_to_each_splice.Goals as goal

pub returns : goal.returns
returns c = searches_come_to_each_splice
