use Rattle.std.specs.Prelude.{IfSome}
use Rattle.jls_diff.specs.Borders.{IsAfterMark}
use Rattle.jls_diff.proofs.border.borders_in.Given as goal

abbrev pub invariant-loop-at : goal.invariant-loop-at
invariant-loop-at l = IfSome l.borders (λ places. IsAfterMark l.bytes places.0 × IsAfterMark l.bytes places.1)
