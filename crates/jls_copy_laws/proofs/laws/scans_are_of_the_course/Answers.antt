use Rattle.jls_copy_laws.proofs.CopyScans as copy_scans
use Rattle.jls_copy_laws.proofs.laws.scans_are_of_the_course.Goals as goal

-- src/laws.rt:14:1
pub returns-clause-scans : goal.returns-clause-scans
returns-clause-scans c = copy_scans.scans_are_of_the_course c.every_copy_has_a_course.ensures

-- src/laws.rt:14:1
pub returns-clause-one : goal.returns-clause-one
returns-clause-one c = copy_scans.one_list_of_scans
