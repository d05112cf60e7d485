use Rattle.jls_c.proofs.frame.plan.Goals as goal

pub returns-in_default-options_of-clause-none : goal.returns-in_default-options_of-clause-none
returns-in_default-options_of-clause-none c = λ has. c.in_default-options_of.ensures.none has.options has.plan.are_options
