use Rattle.jls_station.proofs.CopySteps.{SoFar}
use Rattle.jls_station.proofs.reading.read_on.Given as goal

-- the reads so far gave what was fed
abbrev pub invariant-loop : goal.invariant-loop
invariant-loop g l =
    let history = g.S.Device.history in
    let remaining = g.S.Source.remaining in
    let fed = g.I.Intake.fed in
    SoFar g.I.Intake.IsEnough (fed l.fn.held) (fed l.held) l.made l.counter (history l.fn.device) (history l.device) (remaining l.fn.device)
    (remaining l.device)
