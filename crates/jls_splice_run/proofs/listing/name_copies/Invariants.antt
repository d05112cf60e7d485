use Rattle.std.proofs.Common.{take}
use Rattle.jls_diff.specs.PartsOf.{bytes_of}
use Rattle.jls_splice_run.specs.Listing.{AreNamed, named_files}
use Rattle.jls_splice_run.proofs.listing.name_copies.Given as goal

abbrev pub invariant-loop-place : goal.invariant-loop-place
invariant-loop-place l = AreNamed l.naming.most l.naming.prefix.now (bytes_of (take l.place l.copies)) (named_files l.named.items)
