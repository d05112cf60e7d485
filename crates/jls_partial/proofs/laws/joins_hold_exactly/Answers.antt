use Rattle.jls_partial.proofs.Parts.{held_by_members, marks_of_join}
use Rattle.jls_partial.proofs.laws.joins_hold_exactly.Goals as goal

pub returns-clause-readings : goal.returns-clause-readings
returns-clause-readings c = held_by_members

pub returns-clause-marks : goal.returns-clause-marks
returns-clause-marks c = marks_of_join
