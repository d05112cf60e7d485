-- The line on the fault output about what came of a command. It begins with the name of the program.
use Rattle.std.specs.Prelude.{ℕ, Bool, List, [], ◌++◌, Ok, Err, codes, decimal, if◌then◌else◌}
use Rattle.jls_io.specs.FaultLines.{line_about, line_with_number, no_picture_line, not_written_line, out_of_memory_line, plain_line}
use Rattle.jls_io.specs.Names.{shown_name}
use Rattle.jls_marker.specs.Faults.{fault_number}
use Rattle.jls_partial.specs.declared.text_fault.TextFault.{TextFault}
use Rattle.jls_partial.specs.declared.text_fault.TextFault.TheVariants as text_fault
use Rattle.jls_station.specs.declared.input.InputFault.{InputFault}
use Rattle.jls_station.specs.declared.input.InputFault.TheVariants as fault
use Rattle.jls_cli.specs.Outcomes.{Outcome}
use Rattle.jls_cli.specs.declared.outcome.Cause.{Cause}
use Rattle.jls_cli.specs.declared.outcome.Cause.TheVariants as cause
use Rattle.jls_cli.specs.declared.outcome.Refusal.{Refusal}

-- the line of a bad text of this name, or that memory ran out
abbrev pub text_fault_line : List ℕ → List ℕ → TextFault → List ℕ
text_fault_line program name (text_fault.Magic offset) = line_with_number program name (codes ": bad text, magic at ") offset
text_fault_line program name (text_fault.BadShape offset) = line_with_number program name (codes ": bad text, shape at ") offset
text_fault_line program name (text_fault.Truncated offset) = line_with_number program name (codes ": bad text, truncated at ") offset
text_fault_line program name (text_fault.Place offset) = line_with_number program name (codes ": bad text, place at ") offset
text_fault_line program name (text_fault.Count offset) = line_with_number program name (codes ": bad text, count at ") offset
text_fault_line program name (text_fault.Order offset) = line_with_number program name (codes ": bad text, order at ") offset
text_fault_line program name (text_fault.Sample offset) = line_with_number program name (codes ": bad text, sample at ") offset
text_fault_line program name (text_fault.Trailing offset) = line_with_number program name (codes ": bad text, trailing at ") offset
text_fault_line program name text_fault.OutOfMemory = out_of_memory_line program

-- the line of a picture's line that is disputed, or missing
abbrev pub unsettled_line : List ℕ → ℕ → ℕ → Bool → List ℕ
unsettled_line program id line disputed =
    program ++ (codes ": line " ++ (decimal line ++ (codes " of component "
    ++ (decimal id ++ (if disputed then codes " is disputed\n" else codes " is missing\n")))))

-- the line of an input of this name that is refused
abbrev pub input_fault_line : List ℕ → List ℕ → InputFault → List ℕ
input_fault_line program name (fault.Text f) = text_fault_line program name f
input_fault_line program name (fault.NoPicture f offset) = no_picture_line program name (fault_number f) offset
input_fault_line program name (fault.Read stop offset) = line_about program name (codes ": read failed")
input_fault_line program name fault.OutOfMemory = out_of_memory_line program

-- the line of an output of this name that was not created
abbrev pub not_created_line : List ℕ → List ℕ → List ℕ
not_created_line program name = line_about program name (codes ": cannot be created")

-- how the line of an output begins whose name is this one, `-` and a number
abbrev pub numbered_start : List ℕ → List ℕ → ℕ → List ℕ → List ℕ
numbered_start program name number rest = program ++ (codes ": " ++ (shown_name name ++ (codes "-" ++ (decimal number ++ rest))))

-- the line of such an output that can't be created
abbrev pub file_not_created_line : List ℕ → List ℕ → ℕ → List ℕ
file_not_created_line program name number = numbered_start program name number (codes ": cannot be created\n")

-- the line of such an output of which so many bytes went out
abbrev pub file_not_written_line : List ℕ → List ℕ → ℕ → ℕ → List ℕ
file_not_written_line program name number count =
    numbered_start program name number (codes ": write failed after " ++ (decimal count ++ codes " bytes\n"))

-- the line of a cause at an input or output of this name
abbrev pub cause_line : List ℕ → List ℕ → Cause → List ℕ
cause_line program name cause.NotOpened = line_about program name (codes ": cannot be opened")
cause_line program name (cause.Input f) = input_fault_line program name f
cause_line program name cause.PartialPicture = line_about program name (codes ": is a partial picture")
cause_line program name (cause.NoPicture f offset) = no_picture_line program name (fault_number f) offset
cause_line program name cause.NotRead = line_about program name (codes ": read failed")
cause_line program name (cause.NoList line) = line_with_number program name (codes ": is no list of bad places, by line ") line
cause_line program name cause.ShapeDiffers = line_about program name (codes ": shape differs")
cause_line program name (cause.Unsettled id line disputed) = unsettled_line program id line disputed
cause_line program name cause.TooLarge = plain_line program (codes "interval too large, give --ri")
cause_line program name cause.NotCreated = not_created_line program name
cause_line program name (cause.NotWritten count) = not_written_line program name count
cause_line program name (cause.FileNotCreated number) = file_not_created_line program name number
cause_line program name (cause.FileNotWritten number count) = file_not_written_line program name number count
cause_line program name cause.OutOfMemory = out_of_memory_line program

-- the line of a refusal
abbrev pub refusal_line : List ℕ → Refusal → List ℕ
refusal_line program r = cause_line program r.name.now r.cause

-- the line of a refusal, and none if the command is done
abbrev pub fault_line : List ℕ → Outcome → List ℕ
fault_line program (Ok d) = []
fault_line program (Err r) = refusal_line program r
