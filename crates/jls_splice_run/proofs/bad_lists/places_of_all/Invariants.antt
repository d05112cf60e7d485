use Rattle.std.proofs.Common.{take}
use Rattle.std.specs.List.{AllZip}
use Rattle.jls_station.specs.CopyFiles.{copies_of}
use Rattle.jls_splice_run.specs.BadLists.{IsList, places_held}
use Rattle.jls_splice_run.proofs.bad_lists.places_of_all.Given as goal

abbrev pub invariant-loop-index : goal.invariant-loop-index
invariant-loop-index l = AllZip IsList (copies_of (take l.index l.files)) (places_held l.all.items)
