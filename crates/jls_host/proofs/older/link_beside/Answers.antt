use Rattle.std.proofs.Common.{decimal, refl, ◌∙◌}
use Rattle.jls_host.specs.Steps.{IsSecond}
use Rattle.jls_host.proofs.Runs.{unasked, and_then, at_name}
use Rattle.jls_host.proofs.Steps.{link_went, link_failed}
use Rattle.jls_host.proofs.older.link_beside.Goals as goal

pub loop-number-init : goal.loop-number-init
loop-number-init g c = λ x held. unasked (λ d s. s.shows) refl

pub loop-number-preserved : goal.loop-number-preserved
loop-number-preserved g c = λ x held.
    and_then (c.loop-number.invariant x held)
    (link_failed c.args.name.now c.as_str.result.now (decimal c.loop-number.number, c.as_str.ensures.value ∙ c.in-Some.ensures.named)
    c.in-Err.ensures.failed x held)

-- the file has a second name
pub returns-in-Ok-clause-found : goal.returns-in-Ok-clause-found
returns-in-Ok-clause-found g c = λ x held.
    and_then (c.loop-number.invariant x held)
    (at_name (λ s. IsSecond c.args.name.now s x held) c.as_str.result.now c.in-Some.own.bytes c.as_str.ensures.value
    (link_went c.args.name.now c.as_str.result.now (decimal c.loop-number.number, c.as_str.ensures.value ∙ c.in-Some.ensures.named)
    c.in-Ok.ensures.noted x held))

pub returns-in-Err-2-clause-none : goal.returns-in-Err-2-clause-none
returns-in-Err-2-clause-none g c = λ x held.
    and_then (c.loop-number.invariant x held)
    (link_failed c.args.name.now c.as_str.result.now (decimal c.loop-number.number, c.as_str.ensures.value ∙ c.in-Some.ensures.named)
    c.in-Err-2.ensures.failed x held)
