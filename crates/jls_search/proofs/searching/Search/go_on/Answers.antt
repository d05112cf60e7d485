use Rattle.jls_search.proofs.Tries.{search_on}
use Rattle.jls_search.proofs.searching.Search.go_on.Goals as goal

pub run-requires-clause-stands : goal.run-requires-clause-stands
run-requires-clause-stands c = c.requires.stands.is_at

pub returns-clause-stands : goal.returns-clause-stands
returns-clause-stands c =
    search_on c.args.parts.now c.args.self.now c.run.new.self c.requires.stands c.run.result c.run.ensures.stands c.run.ensures.alike
