use Rattle.std.proofs.Common.{◌≡◌, ◌+◌, ◌++◌, length, take}
use Rattle.std.specs.Iterator.Adapters.{enumerate_count, enumerate_source}
use Rattle.std.specs.Vec.Iter.{into_iter_items}
use Rattle.jls_bad.specs.Copies as bad
use Rattle.jls_station.specs.CopyFiles.{copies_of}
use Rattle.jls_splice_run.specs.Copies.{bytes_read, stops_read}
use Rattle.jls_splice_run.proofs.bad_lists.with_stops.Given as goal

abbrev pub invariant-loop-index : goal.invariant-loop-index
invariant-loop-index l =
    let rest = into_iter_items (enumerate_source l.index-iterator) in
    let count = enumerate_count l.index-iterator in
    record {
      bytes : bytes_read (copies_of l.files.items) ++ bad.bytes_in rest ≡ bad.bytes_in l.fn.known.items;
      stops : stops_read (copies_of l.files.items) ≡ stops_read (copies_of (take count l.read));
      many : count + length rest ≡ length l.read;
    }
