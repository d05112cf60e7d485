use Rattle.jls_headline.proofs.CollectedPictures.{same_copies_hold_the_same, same_copies_write_the_same, same_sources_are_one_station}
use Rattle.jls_headline.proofs.CollectedPictures.{damaged_copies_write_the_picture}
use Rattle.jls_headline.proofs.headline.same_copies_give_the_picture.Goals as goal

pub returns-clause-same : goal.returns-clause-same
returns-clause-same c = same_copies_hold_the_same

pub returns-clause-writes : goal.returns-clause-writes
returns-clause-writes c = same_copies_write_the_same

pub returns-clause-same_sources : goal.returns-clause-same_sources
returns-clause-same_sources c = same_sources_are_one_station

pub returns-clause-damaged : goal.returns-clause-damaged
returns-clause-damaged c = damaged_copies_write_the_picture
