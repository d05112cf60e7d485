use Rattle.jls_copy.proofs.OneCourse.{one_course}
use Rattle.jls_copy.proofs.profile_laws.copies_have_one_course_under.Goals as goal

pub returns : goal.returns
returns c = λ profile bytes one other p q. one_course bytes one other p q
