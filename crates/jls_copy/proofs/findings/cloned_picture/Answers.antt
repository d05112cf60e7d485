use Rattle.std.proofs.Common.{ap, ◌∙◌}
use Rattle.jls_partial.specs.Partial.{nothing_known, union}
use Rattle.jls_copy.proofs.Clones.{union_of_nothing}
use Rattle.jls_copy.proofs.findings.cloned_picture.Goals as goal

-- the union with an empty picture is the picture
pub returns-in-Ok : goal.returns-in-Ok
returns-in-Ok c =
    let picture = c.args.partial.now in
    c.in-Ok.ensures.ok
    ∙ ap (λ p. union p picture) (c.empty-clone.ensures ∙ ap nothing_known (c.to_owned.ensures ∙ c.shape.ensures.value))
    ∙ union_of_nothing picture
