use Rattle.std.proofs.lemmas.Result.{IfOk-weaker, IfErr-weaker}
use Rattle.jls_host.specs.Standings.{plainly}
use Rattle.jls_host.proofs.Runs.{and_then, with_less}
use Rattle.jls_host.proofs.Takes.{steady_seen}
use Rattle.jls_host.proofs.output.Output.create.Goals as goal

-- the output is a file of its own beside the name
pub returns-in-Beside : goal.returns-in-Beside
returns-in-Beside g c = record {
  beside = IfOk-weaker c.create_at_own.result _ _ (λ o h n own e.
      let made = h n own e in (
        made.0,
        λ x. and_then (c.look-found.ensures x) (and_then (c.way.ensures.went x (plainly c.look-found.result.standing))
            (with_less (steady_seen c.args.name.now x (plainly c.look-found.result.standing) (c.way.ensures.plainly c.in-Beside.is))
            (λ d s. s.content_is) (λ d b. b) (made.2 x))),
      )) c.create_at_own.ensures.beside;
  protected = IfErr-weaker c.create_at_own.result _ _ (λ why other is. absurd (other is)) c.create_at_own.ensures.why;
}

pub returns-in-Over-clause-protected : goal.returns-in-Over-clause-protected
returns-in-Over-clause-protected g c =
    IfErr-weaker c.create_at_own-in-Over.result _ _ (λ why other is. absurd (other is)) c.create_at_own-in-Over.ensures.why

pub returns-in-Refused-clause-protected : goal.returns-in-Refused-clause-protected
returns-in-Refused-clause-protected g c = λ is x.
    and_then (c.look-found.ensures x) (with_less (λ d s. s) (λ d b. b) (λ d s. s.content_is)
    (c.way.ensures.went x (plainly c.look-found.result.standing)))
