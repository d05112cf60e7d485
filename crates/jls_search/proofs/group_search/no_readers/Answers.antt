use Rattle.std.proofs.Common.{None, subst, sym}
use Rattle.std.specs.Prelude.{IfSome}
use Rattle.jls_values.proofs.Lists.{all_more}
use Rattle.jls_search.specs.Search.{AreEachKept, IsKeptReader}
use Rattle.jls_search.proofs.group_search.no_readers.Goals as goal

pub loop-init : goal.loop-init
loop-init c = λ parts. subst (AreEachKept parts) (sym c.new-readers.ensures.items) tt

pub loop-preserved : goal.loop-preserved
loop-preserved c = λ parts.
    subst (AreEachKept parts) (sym c.in_ok-push.ensures.items)
    (all_more (λ reader. IfSome reader (IsKeptReader parts)) c.loop.readers.items None (c.loop.invariant parts) tt)
