use Rattle.jls_host.specs.Standings.{plainly, maybe_partial}
use Rattle.jls_host.proofs.Runs.{and_then}
use Rattle.jls_host.proofs.Steps.{asked_partial, asked_input, plain_told}
use Rattle.jls_host.proofs.making.look.Goals as goal

pub returns : goal.returns
returns g c = λ x.
    and_then (asked_partial c.args.name.now (maybe_partial c.kind-kind.result) c.kind-kind.ensures.noted (λ d s. s))
    (and_then (asked_input c.args.name.now c.is_input-is_input.result c.is_input-is_input.ensures.noted (λ d s. s))
    (plain_told c.args.name.now x (plainly c.standing-standing.result) c.standing-standing.ensures.noted))
