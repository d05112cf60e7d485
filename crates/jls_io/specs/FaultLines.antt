-- Fault lines that both programs have. Each begins with the name of the program.
use Rattle.std.specs.Prelude.{ℕ, List, ◌++◌, codes, decimal}
use Rattle.jls_io.specs.Names.{shown_name}

-- a line about no input or output
abbrev pub plain_line : List ℕ → List ℕ → List ℕ
plain_line program text = program ++ (codes ": " ++ (text ++ codes "\n"))

-- a line about the input or output of this name
abbrev pub line_about : List ℕ → List ℕ → List ℕ → List ℕ
line_about program name text = program ++ (codes ": " ++ (shown_name name ++ (text ++ codes "\n")))

-- a line about the input or output of this name, with a number at its end
abbrev pub line_with_number : List ℕ → List ℕ → List ℕ → ℕ → List ℕ
line_with_number program name text number = program ++ (codes ": " ++ (shown_name name ++ (text ++ (decimal number ++ codes "\n"))))

-- the line that memory ran out
abbrev pub out_of_memory_line : List ℕ → List ℕ
out_of_memory_line program = plain_line program (codes "out of memory")

-- the line of a copy of this name in which no frame was taken: the number of its fault, and the offset
abbrev pub no_picture_line : List ℕ → List ℕ → ℕ → ℕ → List ℕ
no_picture_line program name number offset =
    program ++ (codes ": "
    ++ (shown_name name ++ (codes ": no picture, fault " ++ (decimal number ++ (codes " at " ++ (decimal offset ++ codes "\n"))))))

-- the line of an output of this name of which so many bytes went out
abbrev pub not_written_line : List ℕ → List ℕ → ℕ → List ℕ
not_written_line program name count =
    program ++ (codes ": " ++ (shown_name name ++ (codes ": write failed after " ++ (decimal count ++ codes " bytes\n"))))
