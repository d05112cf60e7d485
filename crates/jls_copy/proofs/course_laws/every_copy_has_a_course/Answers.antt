use Rattle.jls_marker.specs.declared.profile.Profile.TheVariants.{Strict}
use Rattle.jls_copy.proofs.CourseFed.{course_fed}
use Rattle.jls_copy.proofs.course_laws.every_copy_has_a_course.Goals as goal

pub returns : goal.returns
returns c = λ bytes low. let fed = course_fed Strict bytes low in (fed.0, fed.1)
