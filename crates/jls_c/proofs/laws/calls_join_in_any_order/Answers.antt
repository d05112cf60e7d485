use Rattle.jls_c.proofs.CallLaws.{calls_join_in_any_order}
use Rattle.jls_c.proofs.laws.calls_join_in_any_order.Goals as goal

pub returns : goal.returns
returns c = calls_join_in_any_order
