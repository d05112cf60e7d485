use Rattle.std.proofs.Common.{sym, ◌∙◌}
use Rattle.jls_host.proofs.Takes.{way_plain}
use Rattle.jls_host.proofs.making.way.Goals as goal

pub returns-clause-plainly : goal.returns-clause-plainly
returns-clause-plainly g c = λ is. way_plain c.args.found.standing c.opens_where-opens.result c.args.found.is_protected
    c.args.found.is_precious (sym c.way_to_make.ensures ∙ is)
