use Rattle.jls_host.proofs.Runs.{and_then}
use Rattle.jls_host.proofs.Steps.{take_went, take_failed, looked}
use Rattle.jls_host.proofs.ending.take_name.Goals as goal

pub returns-in-Ok-clause-ok : goal.returns-in-Ok-clause-ok
returns-in-Ok-clause-ok g c = λ x i bytes p.
    and_then (take_went c.args.name.now c.args.own.now x i bytes p c.in-Ok.ensures.noted)
    (looked c.args.name.now c.sync_folder.ensures.noted.0 c.sync_folder.ensures.noted.1 (λ d t. t.whole))

pub returns-in-Err-clause-err : goal.returns-in-Err-clause-err
returns-in-Err-clause-err g c = λ x i bytes p. take_failed c.args.name.now c.args.own.now x i bytes p c.in-Err.ensures.failed
