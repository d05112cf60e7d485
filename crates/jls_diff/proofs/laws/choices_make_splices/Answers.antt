use Rattle.jls_diff.proofs.Splices.{choices_make_splices}
use Rattle.jls_diff.proofs.laws.choices_make_splices.Goals as goal

pub returns : goal.returns
returns c = choices_make_splices
