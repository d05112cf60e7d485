use Rattle.std.proofs.Common.{ap, sym, ◌∙◌}
use Rattle.jls_partial.specs.Slot.{own_sources}
use Rattle.jls_values.specs.OrderedSet as set
use Rattle.jls_partial.proofs.LineSets.{no_items}
use Rattle.jls_partial.proofs.sources.Sources.as_slice.Goals as goal

pub returns-in-None : goal.returns-in-None
returns-in-None c = sym no_items ∙ ap set.items (sym (ap own_sources c.in-None.is) ∙ c.self.view_is)
