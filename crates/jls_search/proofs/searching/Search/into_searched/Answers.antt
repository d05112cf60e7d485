use Rattle.jls_search.proofs.Walks.{came_to}
use Rattle.jls_search.proofs.searching.Search.into_searched.Goals as goal

pub returns-clause-came_to : goal.returns-clause-came_to
returns-clause-came_to c = λ parts h. came_to parts c.args.self h
