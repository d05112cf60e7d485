use Rattle.jls_copy.proofs.BytesDecide.{bytes_decide}
use Rattle.jls_copy.proofs.copy_laws.bytes_decide.Goals as goal

pub returns : goal.returns
returns c = bytes_decide
