-- The lines on the fault output that this program alone has.
use Rattle.std.specs.Prelude.{ℕ, Bool, true, false, List, codes}
use Rattle.jls_io.specs.FaultLines.{line_about, plain_line}

-- the name of the program, with which each line begins
abbrev pub program : List ℕ
program = codes "jls-salvage"

-- the line of an option with an unknown value: `--ilv` if the format is known, else `--as`
abbrev pub unknown_value_line : Bool → List ℕ
unknown_value_line true = plain_line program (codes "--ilv takes none or line")
unknown_value_line false = plain_line program (codes "--as takes jls or pnm")

-- the second line of a join that would replace a JPEG file of this name
abbrev pub not_replaced_line : List ℕ → List ℕ
not_replaced_line name = line_about program name (codes " is a JPEG file, and join does not replace one")
