use Rattle.jls_write.proofs.picture.first_unsettled.Goals as goal

pub returns-in-Some : goal.returns-in-Some
returns-in-Some c = record { first_line = c.in-Some.ensures; components_before = c.loop-component.invariant }
