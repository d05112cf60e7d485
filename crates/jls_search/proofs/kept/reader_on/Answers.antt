use Rattle.jls_search.proofs.kept.reader_on.Goals as goal

pub fed_on-requires-clause-begun : goal.fed_on-requires-clause-begun
fed_on-requires-clause-begun c = c.in_ok-begun.ensures c.args.parts.now c.requires.kept
