use Rattle.jls_copy.proofs.BytesDecide.{bytes_decide_under}
use Rattle.jls_copy.proofs.profile_laws.bytes_decide_under.Goals as goal

pub returns : goal.returns
returns c = bytes_decide_under
