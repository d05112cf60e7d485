use Rattle.jls_search.proofs.reading_splices.make_room.Goals as goal

pub returns : goal.returns
returns c = λ parts all. (c.take_first.ensures parts all).1
