use Rattle.jls_splice_run.proofs.Told.{tells_none, tells_on}
use Rattle.jls_splice_run.proofs.stages.search_in_turn.Goals as goal

pub loop-ceiling-init : goal.loop-ceiling-init
loop-ceiling-init g c = record { found = tt; told = tells_none c.args.options.tells (g.E.Device.history c.args.faults.now) }

pub returns-in_err-searched-clause-told : goal.returns-in_err-searched-clause-told
returns-in_err-searched-clause-told g c = tells_on c.args.options.tells c.loop-ceiling.invariant.told c.in_err-searched.ensures.told

pub returns-then-searched-clause-told : goal.returns-then-searched-clause-told
returns-then-searched-clause-told g c = tells_on c.args.options.tells c.loop-ceiling.invariant.told c.in_ok-searched.ensures.told

pub loop-ceiling-preserved : goal.loop-ceiling-preserved
loop-ceiling-preserved g c =
    let e = c.in_ok-searched.ensures in
    record {
      found = c.with_one_more-turned.ensures c.args.parts.now c.loop-ceiling.invariant.found
          (record { came_to = e.came_to; reader = e.reader });
      told = tells_on c.args.options.tells c.loop-ceiling.invariant.told e.told;
    }
