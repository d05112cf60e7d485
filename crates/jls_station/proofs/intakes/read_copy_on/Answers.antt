use Rattle.jls_station.proofs.ReadingOn.{copy_begins, copy_known}
use Rattle.jls_station.proofs.intakes.read_copy_on.Goals as goal

pub returns-clause-begins : goal.returns-clause-begins
returns-clause-begins g c fed was some = copy_begins c.read_on.result c.read_on.new.held fed some (c.read_on.ensures.longer fed was)

pub returns-clause-known : goal.returns-clause-known
returns-clause-known g c before fed was h =
    copy_known c.read_on.result c.read_on.new.held before (g.S.Source.remaining c.read_on.new.device)
    (c.read_on.ensures.known before fed was h) c.read_on.ensures.end
