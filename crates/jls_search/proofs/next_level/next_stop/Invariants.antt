use Rattle.std.proofs.Common.{◌≤◌, ◌-◌, length}
use Rattle.jls_search.specs.Levels.{NoPartDiffers}
use Rattle.jls_search.proofs.next_level.next_stop.Given as goal

abbrev pub invariant-loop-stop : goal.invariant-loop-stop
invariant-loop-stop l = record {
  from_on : l.from ≤ l.stop;
  within : l.stop ≤ length l.parts;
  same : NoPartDiffers l.parts l.from l.stop;
}

abbrev pub decreases-loop-stop : goal.decreases-loop-stop
decreases-loop-stop l = length l.parts - l.stop
