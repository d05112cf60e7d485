use Rattle.std.proofs.Common.{◌≡◌, ◌∷◌, map, take, List, ℕ}
use Rattle.std.specs.Borrow.{Bor}
use Rattle.jls_io.specs.Event.{GrewBy}
use Rattle.jls_salvage_run.specs.AllInputs.{TakesUnion}
use Rattle.jls_salvage_run.proofs.inputs.take_inputs.Given as goal

abbrev pub invariant-loop-name : goal.invariant-loop-name
invariant-loop-name g l =
    let history = g.D.Device.history in
    record {
      source : l.room.source ≡ l.fn.inputs.source;
      so_far : GrewBy (TakesUnion l.fn.inputs.source
          (l.fn.inputs.first.now ∷ map (λ (f : Bor (List ℕ)). f.now) (take l.name-index l.fn.inputs.others.now)) l.station l.whole)
          (history l.fn.desk) (history l.desk);
    }
