use Rattle.std.proofs.Common.{map, ap, ◌∙◌}
use Rattle.jls_cli.specs.BadValues.{list_of}
use Rattle.jls_splice_run.specs.BadLists.{places_held}
use Rattle.jls_splice_run.proofs.ListedCopies.{held_more}
use Rattle.jls_splice_run.proofs.bad_lists.own_places.Goals as goal

pub loop-index-preserved : goal.loop-index-preserved
loop-index-preserved c =
    ap places_held c.in_ok-push.ensures.items
    ∙ held_more (map list_of c.args.lists.now)
    (places_held c.args.places.now) c.loop-index.index c.loop-index.own.items c.in_ok-places_for.field-0
    c.loop-index.invariant c.in_ok-places_for.ensures
