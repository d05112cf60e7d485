use Rattle.std.proofs.Common.{◌≡◌, take}
use Rattle.jls_bad.specs.Copies as bad
use Rattle.jls_station.specs.CopyFiles.{copies_of}
use Rattle.jls_splice_run.specs.BadLists as spec
use Rattle.jls_splice_run.specs.BadLists.{places_held}
use Rattle.jls_splice_run.specs.Copies.{bytes_read}
use Rattle.jls_splice_run.proofs.bad_lists.with_places.Given as goal

abbrev pub invariant-loop-index : goal.invariant-loop-index
invariant-loop-index l =
    bad.copies_of l.listed.items ≡ spec.with_places (bytes_read (copies_of (take l.index l.read))) (places_held (take l.index l.own))
