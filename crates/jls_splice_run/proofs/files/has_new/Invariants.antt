use Rattle.std.proofs.Common.{◌≡◌, false, map, take}
use Rattle.jls_search.specs.Files.{files_taken}
use Rattle.jls_splice_run.specs.Files as spec
use Rattle.jls_splice_run.specs.Listing.{NamedFile, named_files}
use Rattle.jls_splice_run.proofs.files.has_new.Given as goal

abbrev pub invariant-loop-file : goal.invariant-loop-file
invariant-loop-file l =
    spec.has_new (files_taken l.files) (map (λ (f : NamedFile). f.bytes) (named_files (take l.file-index l.numbered))) ≡ false
