use Rattle.std.proofs.Common.{sym, subst}
use Rattle.jls_partial.specs.Held.{IsStoreOf}
use Rattle.jls_partial.proofs.Store.{none_stored}
use Rattle.jls_partial.proofs.partial.Partial.empty.Goals as goal

pub invariant_of-result : goal.invariant_of-result
invariant_of-result c =
    subst (IsStoreOf c.args.shape) (sym c.empty-store.ensures)
    (record { precision = c.precision.ensures.value; width = c.width.ensures.value; kept = none_stored c.args.shape })
