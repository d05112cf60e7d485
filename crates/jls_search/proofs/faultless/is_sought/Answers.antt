use Rattle.jls_search.proofs.FaultlessFiles.{ever_unsought}
use Rattle.jls_search.proofs.faultless.is_sought.Goals as goal

pub returns-in-Err-clause-unsought : goal.returns-in-Err-clause-unsought
returns-in-Err-clause-unsought c =
    ever_unsought c.args.ceiling c.args.reader c.in-Err.fault c.without_frame.result c.without_frame.ensures c.in-Err.ensures.none
