use Rattle.jls_headline.proofs.OneLine.{damaged_at_says_no_other, damaged_is_damaged_at_each}
use Rattle.jls_headline.proofs.TrimmedLines.{trimmed_at_is_damaged_at}
use Rattle.jls_headline.proofs.lines.damaged_copies_say_no_other.Goals as goal

pub returns-clause-at_line : goal.returns-clause-at_line
returns-clause-at_line c = damaged_at_says_no_other

pub returns-clause-at_each : goal.returns-clause-at_each
returns-clause-at_each c = damaged_is_damaged_at_each

pub returns-clause-trimmed : goal.returns-clause-trimmed
returns-clause-trimmed c = trimmed_at_is_damaged_at
