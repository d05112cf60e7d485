use Rattle.std.proofs.lemmas.Result.{on_ok_weaker, on_err_weaker}
use Rattle.jls_host.specs.Recorded.{number_of}
use Rattle.jls_host.proofs.Runs.{and_then, with_less}
use Rattle.jls_host.proofs.Takes.{whole_old}
use Rattle.jls_host.proofs.Steps.{store_went, store_failed}
use Rattle.jls_host.proofs.ending.put_named.Goals as goal

pub returns-in-Err-clause-err : goal.returns-in-Err-clause-err
returns-in-Err-clause-err g c = λ x bytes p. store_failed c.args.name.now c.args.own.now (number_of c.args.held.now) x bytes p
    c.in-Err.ensures.failed

-- the file took the name
pub returns-in-Ok-see_to_older-clause-ok : goal.returns-in-Ok-see_to_older-clause-ok
returns-in-Ok-see_to_older-clause-ok g c = on_ok_weaker c.take_name.result (λ w x bytes p.
    and_then (store_went c.args.name.now c.args.own.now (number_of c.args.held.now) x bytes p c.in-Ok.ensures.noted)
    (and_then (with_less (λ d s. s) (whole_old c.args.name.now x bytes p) (λ d s. s)
    (c.in-Ok-see_to_older.ensures.ok x (number_of c.args.held.now) bytes p)) (w x (number_of c.args.held.now) bytes p)))
    c.take_name.ensures.ok

-- the file did not take the name
pub returns-in-Ok-see_to_older-clause-err : goal.returns-in-Ok-see_to_older-clause-err
returns-in-Ok-see_to_older-clause-err g c = on_err_weaker c.take_name.result (λ w x bytes p.
    and_then (store_went c.args.name.now c.args.own.now (number_of c.args.held.now) x bytes p c.in-Ok.ensures.noted)
    (and_then (with_less (λ d s. s) (whole_old c.args.name.now x bytes p) (λ d s. s)
    (c.in-Ok-see_to_older.ensures.ok x (number_of c.args.held.now) bytes p)) (w x (number_of c.args.held.now) bytes p)))
    c.take_name.ensures.err

-- the older file could not be seen to
pub returns-in-Err-see_to_older-clause-err : goal.returns-in-Err-see_to_older-clause-err
returns-in-Err-see_to_older-clause-err g c = λ x bytes p.
    and_then (store_went c.args.name.now c.args.own.now (number_of c.args.held.now) x bytes p c.in-Ok.ensures.noted)
    (with_less (λ d s. s) (whole_old c.args.name.now x bytes p) (λ d s. record
    { whole = whole_old c.args.name.now x bytes p d s.shows; named = s.holds.beside.named })
    (c.in-Err-see_to_older.ensures.err x (number_of c.args.held.now) bytes p))
