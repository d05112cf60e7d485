use Rattle.std.proofs.Common.{sym, subst}
use Rattle.jls_interval.specs.Events.{AreEvents}
use Rattle.jls_interval.proofs.PartedOnce.{only_events, events_part}
use Rattle.jls_interval.proofs.laws.lines_are_parted_once.Goals as goal

pub returns : goal.returns
returns c = λ p w k n lines some are es.
    (only_events p w k lines some are.each es, λ e. subst (λ z. AreEvents w k lines z) (sym e) (events_part p w k lines some are.each))
