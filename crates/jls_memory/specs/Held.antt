-- Inputs and outputs, as the code holds them.
use Rattle.std.specs.Prelude.{◌≡◌, ℕ, List, [], ◌∷◌, ◌++◌, map}
use Rattle.std.specs.String.{string_bytes}
use Rattle.jls_memory.specs.Files.{File}
use Rattle.jls_memory.specs.declared.files.Input.{Input}
use Rattle.jls_memory.specs.declared.files.Output.{Output}

-- an input as a file
abbrev pub input_file : Input → File
input_file i = record { name = i.name.now; bytes = i.bytes.now }

-- an output as a file
abbrev pub output_file : Output → File
output_file o = record { name = string_bytes o.name; bytes = o.bytes.items }

-- outputs as files
abbrev pub output_files : List Output → List File
output_files outputs = map output_file outputs

-- the last of the files got more bytes, and nothing else changed
pub record AreLonger (bytes : List ℕ) (old new : List File) : Type 0 where
  pub before : List File
  pub last : File
  pub old_are : old ≡ before ++ last ∷ []
  pub new_are : new ≡ before ++ record { name = last.name; bytes = last.bytes ++ bytes } ∷ []
