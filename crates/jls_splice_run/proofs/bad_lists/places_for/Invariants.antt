use Rattle.std.proofs.Common.{◌≡◌, map, take}
use Rattle.jls_cli.specs.BadValues.{list_of}
use Rattle.jls_splice_run.specs.BadLists as spec
use Rattle.jls_splice_run.specs.BadLists.{places_held}
use Rattle.jls_splice_run.proofs.bad_lists.places_for.Given as goal

abbrev pub invariant-loop-index : goal.invariant-loop-index
invariant-loop-index l =
    l.own.items ≡ spec.places_for l.number (map list_of (take l.index l.lists)) (places_held (take l.index l.places))
