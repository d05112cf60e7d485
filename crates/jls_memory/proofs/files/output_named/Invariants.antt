use Rattle.std.proofs.Common.{◌≡◌, option_map, reverse, take}
use Rattle.jls_memory.specs.Files.{bytes_named}
use Rattle.jls_memory.specs.Held.{output_files}
use Rattle.jls_memory.proofs.files.output_named.Given as goal

abbrev pub invariant-loop-output : goal.invariant-loop-output
invariant-loop-output l =
    option_map (λ s. s.now) l.found ≡ bytes_named l.name (reverse (output_files (take l.output-index l.outputs)))
