use Rattle.std.proofs.Common.{◌≡◌, None, map, take}
use Rattle.jls_memory.specs.Files.{bytes_named}
use Rattle.jls_memory.specs.Held.{input_file}
use Rattle.jls_memory.proofs.files.input_named.Given as goal

abbrev pub invariant-loop-input : goal.invariant-loop-input
invariant-loop-input l = bytes_named l.name (map input_file (take l.input-index l.inputs)) ≡ None
