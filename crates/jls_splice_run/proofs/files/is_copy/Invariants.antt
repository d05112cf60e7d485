use Rattle.std.proofs.Common.{◌≡◌, false, take}
use Rattle.jls_diff.specs.PartsOf.{bytes_of}
use Rattle.jls_splice_run.specs.Files as spec
use Rattle.jls_splice_run.proofs.files.is_copy.Given as goal

abbrev pub invariant-loop-copy : goal.invariant-loop-copy
invariant-loop-copy l = spec.is_copy (bytes_of (take l.copy-index l.copies)) l.file ≡ false
