use Rattle.jls_partial.proofs.packed.put.Goals as goal

pub returns-clause-slots_ok : goal.returns-clause-slots_ok
returns-clause-slots_ok c = c.insert.ensures

pub returns-clause-slots_err : goal.returns-clause-slots_err
returns-clause-slots_err c = tt
