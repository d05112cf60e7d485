use Rattle.std.proofs.Common.{◌≡◌, map, take}
use Rattle.jls_diff.specs.PartsOf.{bytes_of}
use Rattle.jls_held.specs.MendedFiles.{MendedFile}
use Rattle.jls_held.specs.Mending.{file_of}
use Rattle.jls_splice_run.proofs.beside.mended_slices.Given as goal

abbrev pub invariant-loop-file : goal.invariant-loop-file
invariant-loop-file l = bytes_of l.slices.items ≡ map (λ (f : MendedFile). f.bytes) (map file_of (take l.file-index l.mended))
