use Rattle.jls_headline.proofs.StationPictures.{say_the_same}
use Rattle.jls_headline.proofs.CollectedPictures.{same_copies_say_the_same, same_sources_same_text}
use Rattle.jls_headline.proofs.headline.same_copies_write_the_same_bytes.Goals as goal

pub returns-clause-readings : goal.returns-clause-readings
returns-clause-readings c = say_the_same

pub returns-clause-same : goal.returns-clause-same
returns-clause-same c = same_copies_say_the_same

pub returns-clause-same_sources : goal.returns-clause-same_sources
returns-clause-same_sources c = same_sources_same_text
