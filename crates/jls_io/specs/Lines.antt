-- A line by its parts.
use Rattle.std.specs.Prelude.{ℕ, List, [], ◌∷◌, ◌++◌, codes, decimal}
use Rattle.jls_io.specs.Names.{shown_name}
use Rattle.jls_io.specs.declared.line.LinePart.{LinePart}
use Rattle.jls_io.specs.declared.line.LinePart.TheVariants.{Text, Name, Number}

-- the bytes of a part: a text as it is, a name as it is shown, a number in decimal
abbrev pub part_bytes : LinePart → List ℕ
part_bytes (Text text) = text.now
part_bytes (Name name) = shown_name name.now
part_bytes (Number n) = decimal n

-- the parts one after the other, and then a newline
abbrev pub line_of : List LinePart → List ℕ
line_of [] = codes "\n"
line_of (part ∷ parts) = part_bytes part ++ line_of parts
