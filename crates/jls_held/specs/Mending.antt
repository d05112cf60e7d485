-- What `mended_copy` takes and answers, as edits and as a mended file.
use Rattle.std.specs.Prelude.{List, map}
use Rattle.jls_held.specs.declared.mending.CopyEdit.{CopyEdit}
use Rattle.jls_held.specs.declared.mending.MendedCopy.{MendedCopy}
use Rattle.jls_held.specs.MendedFiles.{MendedFile}
use Rattle.jls_held.specs.Edits.{Edit}

-- an edit, in the words of the definitions
abbrev pub edit_of : CopyEdit → Edit
edit_of e = record { offset = e.offset; count = e.count; bytes = e.bytes.items }

-- and a list of them
abbrev pub edits_of : List CopyEdit → List Edit
edits_of edits = map edit_of edits

-- what was made of a copy, as a mended file
abbrev pub file_of : MendedCopy → MendedFile
file_of m = record { bytes = m.bytes.items; held = m.held.items }
