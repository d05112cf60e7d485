use Rattle.std.proofs.Common.{◌≡◌, ◌∙◌, ap, sym, length, Option, arith}
use Rattle.std.specs.Prelude.{unwrap_or}
use Rattle.jls_values.specs.OrderedSet as set
use Rattle.jls_partial.specs.LineSet.{PictureLines, no_lines}
use Rattle.jls_partial.specs.Stored.{stored_at}
use Rattle.jls_partial.proofs.Store.{no_items}
use Rattle.jls_partial.proofs.partial.lines_at.Goals as goal

-- a place with a reading has lines in the store
pub unreachable-requires : goal.unreachable-requires
unreachable-requires c =
    let some = c.requires in
    let none : length (set.items (stored_at c.args.store.now c.args.at).lines) ≡ 0 =
    ap (λ (o : Option PictureLines). length (set.items (unwrap_or o (no_lines c.args.store.now.precision c.args.store.now.width)).lines))
    (sym c.in-None.ensures) ∙ ap length no_items in
    absurd (omega (arith, none, some))
