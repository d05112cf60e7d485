use Rattle.jls_c.proofs.Reported.{partial_made}
use Rattle.jls_c.proofs.make.jls_partial_under.Goals as goal

pub returns-in-Ok-clause-done : goal.returns-in-Ok-clause-done
returns-in-Ok-clause-done c = λ done.
    partial_made c.args.copy.now c.args.source c.in-Ok.read _ _ _ c.in-Ok.ensures.read (c.put_read.ensures.done done)
