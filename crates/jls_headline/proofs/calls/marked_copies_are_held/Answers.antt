use Rattle.jls_headline.proofs.KnownReadings.{marked_later_from, marked_later_under, inserts_keep}
use Rattle.jls_headline.proofs.calls.marked_copies_are_held.Goals as goal

pub returns-clause-marked : goal.returns-clause-marked
returns-clause-marked c = marked_later_from

pub returns-clause-read_again : goal.returns-clause-read_again
returns-clause-read_again c = marked_later_under

pub returns-clause-inserted : goal.returns-clause-inserted
returns-clause-inserted c = inserts_keep
