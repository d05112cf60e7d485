use Rattle.jls_copy.proofs.FinalEnds.{final_ends_stay}
use Rattle.jls_copy.proofs.profile_laws.final_ends_stay_under.Goals as goal

pub returns : goal.returns
returns c = λ profile prefix more course is final. final_ends_stay prefix more course is final
