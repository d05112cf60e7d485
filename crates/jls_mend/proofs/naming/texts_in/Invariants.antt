use Rattle.std.proofs.Common.{◌≡◌, map, take}
use Rattle.std.specs.String.{string_bytes}
use Rattle.jls_splice_run.specs.Tasks.{texts_of}
use Rattle.jls_mend.proofs.naming.texts_in.Given as goal

abbrev pub invariant-loop-string : goal.invariant-loop-string
invariant-loop-string l = texts_of l.texts.items ≡ map string_bytes (take l.string-index l.strings)
