use Rattle.std.proofs.Common.{◌≡◌, List, ◌++◌, length, map}
use Rattle.std.specs.Vec.Iter.{into_iter_items, into_iter_len}
use Rattle.jls_held.specs.Mending.{file_of}
use Rattle.jls_held.specs.Judging.{EditedCopy, AreMendedOf, AreTaken, bytes_of, codings_of}
use Rattle.jls_held.proofs.judging.judge.Given as goal

-- the proposals so far are judged, and those left are to be
abbrev pub invariant-loop-proposal : goal.invariant-loop-proposal
invariant-loop-proposal l = record {
  left : into_iter_len l.proposal-iterator ≡ length (into_iter_items l.proposal-iterator);
  taken : (codings : List (List EditedCopy)) → AreTaken (bytes_of l.copies) (codings_of (into_iter_items l.proposal-iterator)) codings
      → AreTaken (bytes_of l.copies) (codings_of l.fn.proposals.items) (codings_of l.codings.items ++ codings);
  mended : AreMendedOf (bytes_of l.copies) (codings_of l.codings.items) (map file_of l.files.items);
}
