use Rattle.jls_splice_run.proofs.Told.{tells_none}
use Rattle.jls_splice_run.proofs.searching.tell_on_the_way.Goals as goal

pub returns-then-saturating_sub-lt-TRIES_A_LINE : goal.returns-then-saturating_sub-lt-TRIES_A_LINE
returns-then-saturating_sub-lt-TRIES_A_LINE g c = tells_none c.args.tells (g.E.Device.history c.args.faults.now)
