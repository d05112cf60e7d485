use Rattle.jls_search.proofs.FaultlessFiles.{dead_when_done}
use Rattle.jls_marker.specs.declared.profile.Profile.TheVariants.{Wide}
use Rattle.jls_search.proofs.faultless.is_dead.Goals as goal

pub returns-then-already : goal.returns-then-already
returns-then-already c = λ _. c.is_broken-already.ensures c.if-already.true

pub returns-then-done : goal.returns-then-done
returns-then-done c =
    dead_when_done (c.final_ends_stay_under.ensures Wide) c.args.reader c.is_done-done.result c.if-done.true c.is_done-done.ensures
    c.has_fault.result c.has_fault.ensures
