use Rattle.std.proofs.Common.{arith}
use Rattle.jls_c.proofs.Known.{of_lines}
use Rattle.jls_c.proofs.Texts.{lines_of_text, lines_more}
use Rattle.jls_c.proofs.lines.jls_lines.Goals as goal

pub returns-in-Ok-clause-answers : goal.returns-in-Ok-clause-answers
returns-in-Ok-clause-answers c =
    let known = c.show_lines.ensures.known in of_lines c.show_lines.result (omega (arith, known)) c.show_lines.ensures.answers

pub returns-in-Ok-clause-done : goal.returns-in-Ok-clause-done
returns-in-Ok-clause-done c = λ done.
    lines_of_text c.args.partial.now c.in-Ok.held _ _ _ _ _ c.in-Ok.ensures.found (c.show_lines.ensures.done done)

pub returns-in-Ok-clause-short_room : goal.returns-in-Ok-clause-short_room
returns-in-Ok-clause-short_room c = λ short.
    lines_more c.args.partial.now c.in-Ok.held _ _ _ c.in-Ok.ensures.found (c.show_lines.ensures.short_room short)
