use Rattle.std.proofs.Common.{◌∙◌, ◌||◌, false, get_or, ap, arith}
use Rattle.jls_bad.proofs.MarkedPlaces.{range_end}
use Rattle.jls_bad.proofs.marks.mark.Goals as goal

pub returns : goal.returns
returns c = λ k. c.loop-at.invariant.marks k ∙ ap (λ b. get_or c.args.marks.now k false || b) (range_end k c.args.begin c.args.end c.loop-at.at (omega arith) (omega arith) (λ h. omega (arith, h)) c.loop-at.invariant.none)
