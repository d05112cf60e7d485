use Rattle.jls_c.proofs.CallLaws.{calls_read_what_calls_wrote}
use Rattle.jls_c.proofs.laws.calls_read_what_calls_wrote.Goals as goal

pub returns : goal.returns
returns c = calls_read_what_calls_wrote
