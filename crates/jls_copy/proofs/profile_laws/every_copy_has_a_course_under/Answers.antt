use Rattle.jls_copy.proofs.CourseFed.{course_fed}
use Rattle.jls_copy.proofs.profile_laws.every_copy_has_a_course_under.Goals as goal

pub returns : goal.returns
returns c = λ profile bytes low. let fed = course_fed profile bytes low in (fed.0, fed.1)
