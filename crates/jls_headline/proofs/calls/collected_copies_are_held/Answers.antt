use Rattle.jls_headline.proofs.Collected.{collected_holds, collected_holds_under}
use Rattle.jls_headline.proofs.calls.collected_copies_are_held.Goals as goal

pub returns-clause-exactly : goal.returns-clause-exactly
returns-clause-exactly c = collected_holds

pub returns-clause-sources : goal.returns-clause-sources
returns-clause-sources c = collected_holds_under
