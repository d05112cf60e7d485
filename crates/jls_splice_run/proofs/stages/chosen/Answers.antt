use Rattle.std.proofs.Common.{List, Option, Some, None, sym, subst}
use Rattle.std.specs.Prelude.{IfSome, unwrap_or}
use Rattle.jls_diff.specs.Parts.{Part}
use Rattle.jls_search.specs.declared.whole_search.Searched.{Searched}
use Rattle.jls_splice_run.specs.Ceilings.{IsSearchOf}
use Rattle.jls_splice_run.proofs.stages.chosen.Goals as goal

either : (parts : List Part) (first : Searched) (found : Option Searched) → IfSome found (IsSearchOf parts) → IsSearchOf parts first
    → IsSearchOf parts (unwrap_or found first)
either parts first None last is = is
either parts first (Some s) last is = last

pub returns : goal.returns
returns c = λ parts last is.
    subst (IsSearchOf parts) (sym c.unwrap_or.ensures) (either parts c.args.first c.args.turned.found last is)
