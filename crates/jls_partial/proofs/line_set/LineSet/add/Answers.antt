use Rattle.std.proofs.Common.{◌≡◌, Some, None, ◌∙◌}
use Rattle.jls_partial.specs.Slots.{slots_of}
use Rattle.jls_partial.proofs.LineSets.{held_fits}
use Rattle.jls_partial.proofs.line_set.LineSet.add.Goals as goal

pub returns-in-Some-clause-no_memory : goal.returns-in-Some-clause-no_memory
returns-in-Some-clause-no_memory c = λ h.
    let packed = c.self.inside.packed in
    let fits = held_fits packed.precision packed.width packed.samples.items (slots_of c.self.inside.slots) c.args.self.now c.self.invariant
    c.self.view_is c.args.samples.now h in
    let bad : Some c.in-Some.fault ≡ None = c.in-Some.ensures ∙ fits in
    absurd cc
