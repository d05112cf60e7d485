use Rattle.std.proofs.Common.{ℕ, true, false, [], ◌∷◌, ◌++◌, ◌∙◌, ap}
use Rattle.std.proofs.lemmas.Result.{on_ok_weaker, on_err_weaker}
use Rattle.jls_host.specs.Disk.{syncs}
use Rattle.jls_host.specs.Recorded.{calls_of, number_of}
use Rattle.jls_host.proofs.Runs.{and_then}
use Rattle.jls_host.proofs.Steps.{copy_went, copy_failed, sync_went, sync_failed}
use Rattle.jls_host.proofs.older.copy_and_sync.Goals as goal

pub returns-in-Ok-clause-ok : goal.returns-in-Ok-clause-ok
returns-in-Ok-clause-ok g c = on_ok_weaker c.sync.result (λ e second x held.
    and_then (copy_went c.args.name.now second (number_of c.args.to.now) c.in-Ok.ensures.noted x held)
    (sync_went c.args.name.now second (number_of c.args.to.now) (e ∙ ap (λ (j : ℕ). calls_of c.copy.new.self ++ (syncs j, true) ∷ [])
    c.copy.ensures.same) x held)) c.sync.ensures.noted

pub returns-in-Ok-clause-err : goal.returns-in-Ok-clause-err
returns-in-Ok-clause-err g c = on_err_weaker c.sync.result (λ e second x held.
    and_then (copy_went c.args.name.now second (number_of c.args.to.now) c.in-Ok.ensures.noted x held)
    (sync_failed c.args.name.now second (number_of c.args.to.now)
    (e ∙ ap (λ (j : ℕ). calls_of c.copy.new.self ++ (syncs j, false) ∷ []) c.copy.ensures.same) x held)) c.sync.ensures.failed

pub returns-in-Err-clause-err : goal.returns-in-Err-clause-err
returns-in-Err-clause-err g c = λ second x held. copy_failed c.args.name.now second (number_of c.args.to.now) c.in-Err.ensures.failed x held
