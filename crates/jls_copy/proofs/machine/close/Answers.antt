use Rattle.jls_copy.proofs.machine.close.Goals as goal

pub close-requires-clause-held : goal.close-requires-clause-held
close-requires-clause-held c = c.requires.held c.in-Some.shape.now c.in-Some.ensures.some

pub close_cut-requires-clause-held : goal.close_cut-requires-clause-held
close_cut-requires-clause-held c = c.requires.held c.in-Some.shape.now c.in-Some.ensures.some
