use Rattle.std.proofs.Common.{◌≡◌, ◌∙◌, Some, None, ap}
use Rattle.jls_values.specs.Shape.{PictureShape}
use Rattle.jls_partial.specs.InsertFaults.{reading_fault}
use Rattle.jls_partial.proofs.Store.{fitting}
use Rattle.jls_partial.proofs.partial.Partial.insert.Goals as goal

pub returns-in-Some-clause-no_memory : goal.returns-in-Some-clause-no_memory
returns-in-Some-clause-no_memory c = λ h.
    let f = ap (λ (s : PictureShape). reading_fault s c.args.component c.args.line c.args.samples.now) (ap (λ p. p.shape) c.self.view_is)
    ∙ fitting 0 0 c.self.inside.shape c.self.inside.store.entries c.self.invariant.kept c.args.self.now c.self.view_is c.args.component
    c.args.line c.args.samples.now h in
    let bad : Some c.in-Some.fault ≡ None = c.in-Some.ensures ∙ f in
    absurd cc
