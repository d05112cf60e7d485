use Rattle.jls_context.proofs.Contexts.{apart}
use Rattle.jls_context.proofs.laws.contexts_are_apart.Goals as goal

pub returns : goal.returns
returns c = λ p near other same. apart p near other same
