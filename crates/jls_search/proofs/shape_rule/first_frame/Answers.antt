use Rattle.std.proofs.Common.{refl, sym, ◌∙◌, subst}
use Rattle.jls_search.specs.Seen.{HasFrame}
use Rattle.jls_search.proofs.SeenFiles.{first_frame_at}
use Rattle.jls_search.proofs.shape_rule.first_frame.Goals as goal

pub returns-in-Faultless-clause-some : goal.returns-in-Faultless-clause-some
returns-in-Faultless-clause-some c =
    let shape = c.in-Faultless.shape in
    first_frame_at shape c.args.seen.now c.loop-file.file-index c.file-item.result c.loop-file.invariant c.loop-file-test.true
    (subst (HasFrame shape) (sym c.in-Faultless.is ∙ c.file-item.is) refl)

pub returns-in-Faulty-clause-some : goal.returns-in-Faulty-clause-some
returns-in-Faulty-clause-some c =
    let shape = c.in-Faulty.shape in
    first_frame_at shape c.args.seen.now c.loop-file.file-index c.file-item.result c.loop-file.invariant c.loop-file-test.true
    (subst (HasFrame shape) (sym c.in-Faulty.is ∙ c.file-item.is) refl)
