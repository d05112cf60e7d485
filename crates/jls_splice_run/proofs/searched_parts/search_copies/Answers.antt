use Rattle.jls_splice_run.proofs.Told.{tells_none, tells_on}
use Rattle.jls_splice_run.proofs.searched_parts.search_copies.Goals as goal

pub returns-in_err-parts-clause-told : goal.returns-in_err-parts-clause-told
returns-in_err-parts-clause-told g c = tells_none c.args.options.tells (g.E.Device.history c.args.faults.now)

pub returns-in_err-finer-clause-told : goal.returns-in_err-finer-clause-told
returns-in_err-finer-clause-told g c = tells_on c.args.options.tells c.in_ok-first.ensures.told c.in_err-finer.ensures.told

pub returns-clause-told : goal.returns-clause-told
returns-clause-told g c =
    tells_on c.args.options.tells (tells_on c.args.options.tells c.in_ok-first.ensures.told c.in_ok-finer.ensures.told)
    c.search_others-2.ensures.told
