use Rattle.jls_copy.proofs.FinalEnds.{final_ends_stay}
use Rattle.jls_copy.proofs.copy_laws.final_ends_stay.Goals as goal

pub returns : goal.returns
returns c = λ prefix more course is final. final_ends_stay prefix more course is final
