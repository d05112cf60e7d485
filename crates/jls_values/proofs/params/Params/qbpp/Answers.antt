use Rattle.std.proofs.Common.{sym, ap, ◌∙◌}
use Rattle.jls_values.specs.Params.{qbpp}
use Rattle.jls_values.proofs.Least.{qbpp-log}
use Rattle.jls_values.proofs.params.Params.qbpp.Goals as goal

pub returns-clause-value : goal.returns-clause-value
returns-clause-value c =
    sym (qbpp-log c.self.inside.maxval c.ilog2.result c.ilog2.ensures.power_le c.ilog2.ensures.next_power_gt c.ilog2.ensures.bound)
    ∙ ap qbpp c.self.view_is
