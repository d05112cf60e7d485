use Rattle.jls_c.proofs.Known.{of_join}
use Rattle.jls_c.proofs.Texts.{second_none}
use Rattle.jls_c.proofs.join.jls_join.Goals as goal

pub returns-in-Ok-clause-answers : goal.returns-in-Ok-clause-answers
returns-in-Ok-clause-answers c = of_join c.join_second.result c.join_second.ensures.known c.join_second.ensures.answers

pub returns-in-Ok-clause-done : goal.returns-in-Ok-clause-done
returns-in-Ok-clause-done c = λ done. c.join_second.ensures.done done c.args.first.now c.in-Ok.ensures.found

pub returns-in-Ok-clause-short_room : goal.returns-in-Ok-clause-short_room
returns-in-Ok-clause-short_room c = λ short. c.join_second.ensures.short_room short c.args.first.now c.in-Ok.ensures.found

pub returns-in-Ok-clause-no_second : goal.returns-in-Ok-clause-no_second
returns-in-Ok-clause-no_second c = λ second.
    second_none c.args.first.now c.args.second.now c.in-Ok.partial _ c.in-Ok.ensures.found (c.join_second.ensures.no_second second)

pub returns-in-Ok-clause-shapes_differ : goal.returns-in-Ok-clause-shapes_differ
returns-in-Ok-clause-shapes_differ c = λ six. c.join_second.ensures.shapes_differ six c.args.first.now c.in-Ok.ensures.found
