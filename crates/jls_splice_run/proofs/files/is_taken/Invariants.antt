use Rattle.std.proofs.Common.{◌≡◌, false, take}
use Rattle.jls_search.specs.Search.{files_of, lists_of}
use Rattle.jls_splice_run.specs.Files as spec
use Rattle.jls_splice_run.proofs.files.is_taken.Given as goal

abbrev pub invariant-loop-place : goal.invariant-loop-place
invariant-loop-place l =
    spec.is_copy (files_of l.files.parts.now (lists_of (take l.place l.files.splices.now))) l.file ≡ false
