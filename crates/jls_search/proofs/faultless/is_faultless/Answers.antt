use Rattle.jls_search.proofs.FaultlessFiles.{faultless_if_sought, faulty_if_unsought}
use Rattle.jls_search.proofs.faultless.is_faultless.Goals as goal

pub returns-clause-faultless : goal.returns-clause-faultless
returns-clause-faultless c = faultless_if_sought c.args.reader c.is_sought.result c.is_sought.ensures.sought

pub returns-clause-faulty : goal.returns-clause-faulty
returns-clause-faulty c = faulty_if_unsought c.args.reader c.is_sought.result c.is_sought.ensures.unsought
