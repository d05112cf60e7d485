use Rattle.std.proofs.Common.{◌∙◌, ap, sym, length, Option}
use Rattle.std.specs.Prelude.{unwrap_or}
use Rattle.jls_values.specs.OrderedSet as set
use Rattle.jls_partial.specs.LineSet.{PictureLines, no_lines}
use Rattle.jls_partial.proofs.Store.{no_items}
use Rattle.jls_partial.proofs.partial.count_at.Goals as goal

pub returns-in-None : goal.returns-in-None
returns-in-None c =
    sym (ap length no_items) ∙ ap (λ (o : Option PictureLines). length
    (set.items (unwrap_or o (no_lines c.args.store.now.precision c.args.store.now.width)).lines)) c.in-None.ensures
