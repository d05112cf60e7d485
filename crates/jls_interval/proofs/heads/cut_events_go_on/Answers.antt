use Rattle.std.proofs.Common.{[]}
use Rattle.jls_interval.proofs.GrowthEnds.{decoded_from}
use Rattle.jls_interval.proofs.CutEventCases.{cut_is}
use Rattle.jls_interval.proofs.heads.cut_events_go_on.Goals as goal

pub returns : goal.returns
returns c = λ p w k n ok some whole z begun leads.
    let d = decoded_from p w k n some whole [] z leads in cut_is p ok w k n z d.samples d.unfinished begun
