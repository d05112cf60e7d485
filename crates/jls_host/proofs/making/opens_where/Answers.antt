use Rattle.std.proofs.Common.{refl}
use Rattle.jls_host.proofs.Runs.{unasked}
use Rattle.jls_host.proofs.Steps.{looked}
use Rattle.jls_host.proofs.making.opens_where.Goals as goal

pub returns-then-is_asked : goal.returns-then-is_asked
returns-then-is_asked g c = λ x plain. looked c.args.name.now c.opens.result c.opens.ensures.noted (λ d s. s.content_is)

pub returns : goal.returns
returns g c = λ x plain. unasked (λ d s. s.content_is) refl
