use Rattle.jls_partial.proofs.LineSets.{none_where_no_items}
use Rattle.jls_partial.proofs.sources.Sources.is_empty.Goals as goal

pub returns : goal.returns
returns c = none_where_no_items c.args.self.now c.as_slice.result.now c.is_empty.result c.as_slice.ensures c.is_empty.ensures
