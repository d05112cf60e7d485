use Rattle.std.proofs.Common.{ap, sym, ◌∙◌, length}
use Rattle.jls_partial.specs.LinePlace.{place}
use Rattle.jls_partial.proofs.Store.{readings_stored}
use Rattle.jls_partial.proofs.partial.Partial.count.Goals as goal

pub returns : goal.returns
returns c = c.count_at.ensures
    ∙ ap length (sym (readings_stored c.self.invariant c.self.view_is (place c.args.component c.args.line)))
