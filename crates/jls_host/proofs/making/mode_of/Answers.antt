use Rattle.std.proofs.Common.{true, refl}
use Rattle.jls_host.proofs.Runs.{unasked}
use Rattle.jls_host.proofs.Steps.{looked}
use Rattle.jls_host.proofs.making.mode_of.Goals as goal

pub returns-in-Absent : goal.returns-in-Absent
returns-in-Absent g c = λ x held. unasked (λ d s. s.shows) refl

pub returns-in-Regular : goal.returns-in-Regular
returns-in-Regular g c = λ x held. unasked (λ d s. s.shows) refl

pub returns-in-Other : goal.returns-in-Other
returns-in-Other g c = λ x held. looked c.args.name.now true c.mode.ensures.noted (λ d s. s.shows)
