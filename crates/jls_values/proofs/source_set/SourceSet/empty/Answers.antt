use Rattle.std.proofs.Common.{sym, subst}
use Rattle.jls_values.specs.SourceList.{IsSourceList}
use Rattle.jls_values.proofs.SourceLists.{sources-none}
use Rattle.jls_values.proofs.source_set.SourceSet.empty.Goals as goal

pub invariant_of-result : goal.invariant_of-result
invariant_of-result c = subst IsSourceList (sym c.new.ensures.items) sources-none
