use Rattle.std.proofs.Common.{◌≡◌, map}
use Rattle.jls_cli.specs.BadValues.{list_of}
use Rattle.jls_splice_run.specs.BadLists as spec
use Rattle.jls_splice_run.specs.BadLists.{places_held}
use Rattle.jls_splice_run.proofs.bad_lists.own_places.Given as goal

abbrev pub invariant-loop-index : goal.invariant-loop-index
invariant-loop-index l = places_held l.own.items ≡ spec.places_from 1 (map list_of l.lists) (places_held l.places) l.index
