use Rattle.std.proofs.Common.{◌≡◌, false, take}
use Rattle.jls_splice_run.specs.Listing.{is_named, named_files}
use Rattle.jls_splice_run.proofs.listing.has_name.Given as goal

abbrev pub invariant-loop-other : goal.invariant-loop-other
invariant-loop-other l = is_named (named_files (take l.other-index l.named)) l.file ≡ false
