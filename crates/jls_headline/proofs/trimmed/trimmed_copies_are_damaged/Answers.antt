use Rattle.jls_headline.proofs.Trims.{trimmed_copies_are_damaged}
use Rattle.jls_headline.proofs.trimmed.trimmed_copies_are_damaged.Goals as goal

pub returns : goal.returns
returns c = trimmed_copies_are_damaged
