use Rattle.std.proofs.Common.{arith}
use Rattle.jls_bad.specs.Copies.{copy_of}
use Rattle.jls_bad.proofs.FilledBytes.{known_by_marks}
use Rattle.jls_bad.proofs.filling.with_marks.Goals as goal

pub returns-clause-marks : goal.returns-clause-marks
returns-clause-marks c = known_by_marks (copy_of c.args.copy.now) c.in_ok-is_bad.is_bad.items (λ offset h. c.in_ok-is_bad.ensures offset (omega (arith, h)))
