use Rattle.std.proofs.Common.{ℕ, List, ◌++◌, take}
use Rattle.jls_search.specs.Search.{files_of, lists_of}
use Rattle.jls_splice_run.specs.Listing.{AreNamed, named_files}
use Rattle.jls_splice_run.proofs.listing.name_splices.Given as goal

abbrev pub invariant-loop-place : goal.invariant-loop-place
invariant-loop-place l =
    (before : List (List ℕ)) → AreNamed l.naming.most l.naming.prefix.now before (named_files l.fn.named.items)
    → AreNamed l.naming.most l.naming.prefix.now (before ++ files_of l.files.parts.now (lists_of (take l.place l.files.splices.now)))
    (named_files l.named.items)
