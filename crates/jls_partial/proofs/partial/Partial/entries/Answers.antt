use Rattle.std.proofs.Common.{ap, map, ◌∙◌}
use Rattle.jls_partial.specs.Held.{kept_entry}
use Rattle.jls_partial.proofs.Store.{entries_there}
use Rattle.jls_partial.proofs.partial.Partial.entries.Goals as goal

pub returns-clause-entries : goal.returns-clause-entries
returns-clause-entries c = ap (map kept_entry) c.entries.ensures
    ∙ entries_there 0 0 c.self.inside.shape c.self.inside.store.entries c.self.invariant.kept c.args.self.now c.self.view_is
