use Rattle.jls_headline.proofs.LostIntervals.{damaged_copies_give_exactly, damaged_copies_give_no_other}
use Rattle.jls_headline.proofs.lost_intervals.damaged_copies_give_the_picture.Goals as goal

pub returns-clause-exactly : goal.returns-clause-exactly
returns-clause-exactly c = damaged_copies_give_exactly

pub returns-clause-no_other : goal.returns-clause-no_other
returns-clause-no_other c = damaged_copies_give_no_other
