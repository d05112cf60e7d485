use Rattle.std.specs.Prelude.{IfSome}
use Rattle.jls_io.specs.Event.{GrewBy}
use Rattle.jls_splice_run.specs.Ceilings.{IsSearchOf}
use Rattle.jls_splice_run.specs.Telling.{IsTold}
use Rattle.jls_splice_run.proofs.stages.search_in_turn.Given as goal

abbrev pub invariant-loop-ceiling : goal.invariant-loop-ceiling
invariant-loop-ceiling g l =
    let history = g.E.Device.history in
    record {
      found : IfSome l.turned.found (IsSearchOf l.parts);
      told : GrewBy (IsTold l.options.tells) (history l.fn.faults) (history l.faults);
    }
