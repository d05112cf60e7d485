use Rattle.std.proofs.Common.{[], get_or, refl}
use Rattle.std.specs.Prelude.{IsTrue}
use Rattle.jls_diff.specs.Parts.{Same}
use Rattle.jls_diff.specs.PartsOf.{parts_of}
use Rattle.jls_diff.specs.Parts.{Differs}
use Rattle.jls_diff.proofs.GroupSteps.{pass_border}
use Rattle.jls_diff.proofs.grouping.pass.Goals as goal

pub returns : goal.returns
returns c =
    let ps = parts_of c.args.parts.now in
    let same : Differs (get_or ps c.args.part (Same [])) → ⊥ =
    λ differs. (let y : IsTrue c.differs_at.result = c.differs_at.ensures.1 differs in let n = c.if-differs_at.false in absurd cc) in
    pass_border ps c.args.part c.args.found.now c.requires.found same c.close.new.found _ c.in-Some.end c.in-Some.next
    c.in-Some.ensures.borders.0
    c.in-Some.ensures.borders.1 c.in-Some.ensures.part.0 c.in-Some.ensures.part.1 c.in_ok-close.ensures refl
