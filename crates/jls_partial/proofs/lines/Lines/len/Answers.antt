use Rattle.std.proofs.Common.{sym, ◌∙◌}
use Rattle.jls_partial.specs.Slots.{slots_of}
use Rattle.jls_partial.proofs.LineSets.{length_kept, marks_held}
use Rattle.jls_partial.proofs.lines.Lines.len.Goals as goal

pub returns-clause-value : goal.returns-clause-value
returns-clause-value c = c.len.ensures.value
    ∙ sym (length_kept c.self.inside.packed.now.precision c.self.inside.packed.now.width c.self.inside.packed.now.samples.items
    (slots_of c.self.inside.slots.now) c.args.self.now c.self.invariant c.self.view_is)

pub returns-clause-sources : goal.returns-clause-sources
returns-clause-sources c = λ x t h. marks_held c.self.inside.packed.now.precision c.self.inside.packed.now.width
    c.self.inside.packed.now.samples.items (slots_of c.self.inside.slots.now) c.args.self.now c.self.view_is x t h
