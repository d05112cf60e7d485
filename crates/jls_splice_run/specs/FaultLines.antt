-- The lines on the fault output that this program alone has.
use Rattle.std.specs.Prelude.{ℕ, List, codes}
use Rattle.jls_io.specs.FaultLines.{line_about, plain_line}

-- the name of the program, with which each line begins
abbrev pub program : List ℕ
program = codes "jls-splice"

-- the fault line of words that ask for nothing that there is
abbrev pub not_understood_line : List ℕ
not_understood_line = plain_line program (codes "one COPY is enough only with --bad N:LIST or --witness FILE")

-- the second line of a run that would replace a JPEG file of this name
abbrev pub not_replaced_line : List ℕ → List ℕ
not_replaced_line name = line_about program name (codes " is a JPEG file, and jls-splice replaces none")

-- the line of words that give this name to both outputs
abbrev pub named_twice_line : List ℕ → List ℕ
named_twice_line name = line_about program name (codes ": is named as OUT and by --file")

-- the line of words that give this name to OUT, and by a number to another output
abbrev pub numbered_out_line : List ℕ → List ℕ
numbered_out_line name = line_about program name (codes ": is named as OUT and by --files")

-- the line of words with this value of --bad
abbrev pub bad_value_line : List ℕ → List ℕ
bad_value_line value =
    line_about program value (codes ": --bad wants N:LIST, with the number of a COPY, and a LIST that is no output and not -")
