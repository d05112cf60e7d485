use Rattle.jls_splice_run.proofs.Told.{tells_none}
use Rattle.jls_splice_run.proofs.searched_parts.search_others.Goals as goal

pub returns-then-stands-clause-told : goal.returns-then-stands-clause-told
returns-then-stands-clause-told g c = tells_none c.args.options.tells (g.E.Device.history c.args.faults.now)

pub returns-in_err-others-clause-told : goal.returns-in_err-others-clause-told
returns-in_err-others-clause-told g c = tells_none c.args.options.tells (g.E.Device.history c.args.faults.now)

pub returns-in_default-clause-told : goal.returns-in_default-clause-told
returns-in_default-clause-told g c = tells_none c.args.options.tells (g.E.Device.history c.args.faults.now)
