use Rattle.jls_copy_laws.proofs.Gives.{readings_are_of_the_course}
use Rattle.jls_copy_laws.proofs.laws.readings_are_of_the_course.Goals as goal

pub returns : goal.returns
returns c = readings_are_of_the_course
