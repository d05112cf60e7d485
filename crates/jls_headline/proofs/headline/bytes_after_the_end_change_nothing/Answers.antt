use Rattle.jls_headline.proofs.SameCopies.{bytes_after_the_end_change_nothing}
use Rattle.jls_headline.proofs.headline.bytes_after_the_end_change_nothing.Goals as goal

pub returns : goal.returns
returns c = bytes_after_the_end_change_nothing
