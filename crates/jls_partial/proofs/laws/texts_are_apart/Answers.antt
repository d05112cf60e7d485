use Rattle.jls_partial.proofs.TextLaws.{read_again, one_text}
use Rattle.jls_partial.proofs.laws.texts_are_apart.Goals as goal

pub returns-clause-read : goal.returns-clause-read
returns-clause-read c = λ bytes p is. read_again bytes p is

pub returns-clause-apart : goal.returns-clause-apart
returns-clause-apart c = λ bytes p q p_is q_is. one_text bytes p q p_is q_is
