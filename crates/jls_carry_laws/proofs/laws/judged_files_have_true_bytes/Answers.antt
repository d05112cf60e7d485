use Rattle.jls_carry_laws.proofs.CopiesOfOneFile.{judged_files_have_true}
use Rattle.jls_carry_laws.proofs.laws.judged_files_have_true_bytes.Goals as goal

pub returns : goal.returns
returns c = judged_files_have_true
