use Rattle.std.proofs.Common.{◌∙◌}
use Rattle.jls_values.proofs.Defaults.{defaults_are, never_both, one_value}
use Rattle.jls_values.proofs.params.Params.default_for.Goals as goal

pub unreachable-requires : goal.unreachable-requires
unreachable-requires c =
    never_both c.new.result _ c.in-Err.field-0 (c.new.ensures ∙ defaults_are c.args.precision c.requires.at_least c.requires.at_most)
    c.in-Err.is

pub returns : goal.returns
returns c =
    one_value c.new.result _ _ c.in-Ok.is
    (c.new.ensures ∙ defaults_are c.args.precision c.requires.at_least c.requires.at_most)
