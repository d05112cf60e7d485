use Rattle.std.proofs.Common.{[], decimal, refl, ◌∙◌}
use Rattle.jls_host.specs.Steps.{IsNew}
use Rattle.jls_host.specs.Recorded.{number_of}
use Rattle.jls_host.proofs.Runs.{unasked, and_then, at_name}
use Rattle.jls_host.proofs.Steps.{make_went, make_failed}
use Rattle.jls_host.proofs.making.create_beside.Goals as goal

pub loop-number-init : goal.loop-number-init
loop-number-init g c = λ x held. unasked (λ d s. s.shows) refl

pub loop-number-preserved : goal.loop-number-preserved
loop-number-preserved g c = λ x held.
    and_then (c.loop-number.invariant x held)
    (make_failed c.args.name.now c.as_str.result.now c.in-Err.ensures.failed.0
    (decimal c.loop-number.number, c.as_str.ensures.value ∙ c.in-Some.ensures.named) c.in-Err.ensures.failed.1 x held)

-- a file was made beside the name
pub returns-in-Ok-clause-found : goal.returns-in-Ok-clause-found
returns-in-Ok-clause-found g c = λ x held.
    and_then (c.loop-number.invariant x held)
    (at_name (λ s. IsNew c.args.name.now s (number_of c.in-Ok.file) [] x held) c.as_str.result.now c.in-Some.own.bytes
    c.as_str.ensures.value
    (make_went c.args.name.now c.as_str.result.now (number_of c.in-Ok.file)
    (decimal c.loop-number.number, c.as_str.ensures.value ∙ c.in-Some.ensures.named) c.in-Ok.ensures.noted x held))

pub returns-in-Err-2-clause-none : goal.returns-in-Err-2-clause-none
returns-in-Err-2-clause-none g c = λ x held.
    and_then (c.loop-number.invariant x held)
    (make_failed c.args.name.now c.as_str.result.now c.in-Err-2.ensures.failed.0
    (decimal c.loop-number.number, c.as_str.ensures.value ∙ c.in-Some.ensures.named) c.in-Err-2.ensures.failed.1 x held)
