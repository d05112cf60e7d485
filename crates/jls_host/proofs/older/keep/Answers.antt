use Rattle.std.proofs.Common.{refl, sym}
use Rattle.std.proofs.lemmas.Result.{on_ok_weaker, on_err_weaker}
use Rattle.jls_host.specs.Steps.{IsSecond}
use Rattle.jls_host.proofs.Runs.{unasked, and_then, at_name}
use Rattle.jls_host.proofs.older.keep.Goals as goal

pub returns-in_default-clause-err : goal.returns-in_default-clause-err
returns-in_default-clause-err g c = λ x held. unasked (λ d s. s.shows) refl

pub returns-in-Some-second_beside-clause-ok : goal.returns-in-Some-second_beside-clause-ok
returns-in-Some-second_beside-clause-ok g c = on_ok_weaker c.set_aside.result (λ w x held.
    and_then (c.see_kept.ensures.same x held) (and_then (at_name (λ s. IsSecond c.args.name.now s x held)
    c.in-Some-second_beside.second.bytes c.as_str.result.now (sym c.as_str.ensures.value)
    (c.in-Some-second_beside.ensures.found x held)) (w x held))) c.set_aside.ensures.ok

pub returns-in-Some-second_beside-clause-err : goal.returns-in-Some-second_beside-clause-err
returns-in-Some-second_beside-clause-err g c = on_err_weaker c.set_aside.result (λ w x held.
    and_then (c.see_kept.ensures.same x held) (and_then (at_name (λ s. IsSecond c.args.name.now s x held)
    c.in-Some-second_beside.second.bytes c.as_str.result.now (sym c.as_str.ensures.value)
    (c.in-Some-second_beside.ensures.found x held)) (w x held))) c.set_aside.ensures.err

pub returns-in-None-clause-err : goal.returns-in-None-clause-err
returns-in-None-clause-err g c = λ x held. and_then (c.see_kept.ensures.same x held) (c.in-None.ensures.none x held)
