use Rattle.jls_interval.proofs.CodesApart.{codes_apart}
use Rattle.jls_interval.proofs.laws.codes_are_apart.Goals as goal

pub returns : goal.returns
returns c = codes_apart
