use Rattle.jls_search.proofs.Lengths.{parts_can_be_searched}
use Rattle.jls_search.proofs.laws.parts_can_be_searched.Goals as goal

pub returns : goal.returns
returns c = parts_can_be_searched
