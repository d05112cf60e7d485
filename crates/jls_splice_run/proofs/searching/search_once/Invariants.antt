use Rattle.std.proofs.Common.{◌≡◌, ◌-◌, length}
use Rattle.jls_io.specs.Event.{GrewBy}
use Rattle.jls_search.specs.LevelSearches.{IsLevelSearch}
use Rattle.jls_splice_run.specs.Telling.{IsTold}
use Rattle.jls_splice_run.proofs.searching.search_once.Given as goal

abbrev pub invariant-levels : goal.invariant-levels
invariant-levels g l =
    let history = g.E.Device.history in
    record {
      stands : IsLevelSearch l.parts l.search;
      rules : l.search.rules ≡ l.fn.rules;
      told : GrewBy (IsTold l.tells) (history l.fn.faults) (history l.faults);
    }

abbrev pub decreases-levels : goal.decreases-levels
decreases-levels g l = length l.parts - l.search.count
