use Rattle.jls_host.proofs.Runs.{and_then, some_weaker, none_weaker}
use Rattle.jls_host.proofs.older.second_beside.Goals as goal

pub returns-clause-found : goal.returns-clause-found
returns-clause-found g c = some_weaker c.copy_beside-2.result (λ second w x held. and_then (c.in_default.ensures.none x held) (w x held))
    c.copy_beside-2.ensures.found

pub returns-clause-none : goal.returns-clause-none
returns-clause-none g c = none_weaker c.copy_beside-2.result (λ w x held. and_then (c.in_default.ensures.none x held) (w x held))
    c.copy_beside-2.ensures.none
