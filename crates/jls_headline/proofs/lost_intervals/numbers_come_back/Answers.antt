use Rattle.jls_headline.proofs.ScanNumbers.{numbers_come_back, numbered_pieces_give}
use Rattle.jls_headline.proofs.lost_intervals.numbers_come_back.Goals as goal

pub returns-clause-numbers : goal.returns-clause-numbers
returns-clause-numbers c = numbers_come_back

pub returns-clause-gives : goal.returns-clause-gives
returns-clause-gives c = numbered_pieces_give
