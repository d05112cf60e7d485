use Rattle.jls_diff.specs.PartsOf.{bytes_of}
use Rattle.jls_splice_run.proofs.MakingLemmas.{some_copy}
use Rattle.jls_splice_run.proofs.searched_parts.search_over.Goals as goal

pub search_all-requires-clause-short : goal.search_all-requires-clause-short
search_all-requires-clause-short g c =
    (c.parts_can_be_searched.ensures (bytes_of c.args.copies.now) c.args.parts c.requires.parts (some_copy c.args.copies.now c.requires.some)
    c.requires.short).1
