use Rattle.std.proofs.Common.{◌≡◌}
use Rattle.jls_format_tests.proofs.context.interrupt_often.Given as goal

abbrev pub invariant-loop-turn : goal.invariant-loop-turn
invariant-loop-turn l = l.cells.parameters.maxval ≡ 255
