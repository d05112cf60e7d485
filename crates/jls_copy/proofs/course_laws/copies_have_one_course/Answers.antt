use Rattle.jls_copy.proofs.OneCourse.{one_course}
use Rattle.jls_copy.proofs.course_laws.copies_have_one_course.Goals as goal

pub returns : goal.returns
returns c = λ bytes one other p q. one_course bytes one other p q
