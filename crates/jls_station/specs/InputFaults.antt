-- The fault of an input that has the fault of a text, or of a copy.
use Rattle.std.specs.Prelude.{◌≡◌, ℕ, List, length}
use Rattle.jls_partial.specs.declared.text_fault.TextFault.{TextFault}
use Rattle.jls_partial.specs.declared.text_fault.TextFault.TheVariants.{OutOfMemory}
use Rattle.jls_copy.specs.CopyReads.{CopyGivesNone}
use Rattle.jls_copy.specs.declared.reader.CopyFault.{CopyFault}
use Rattle.jls_copy.specs.declared.reader.CopyFault.TheVariants as copy
use Rattle.jls_station.specs.declared.input.ReadStop.{ReadStop}
use Rattle.jls_station.specs.declared.input.ReadStop.TheVariants.{Whole}
use Rattle.jls_station.specs.declared.input.InputFault.{InputFault}
use Rattle.jls_station.specs.declared.input.InputFault.TheVariants as fault

-- the fault of an input that has this fault as a text
abbrev pub input_fault_of : TextFault → InputFault
input_fault_of OutOfMemory = fault.OutOfMemory
input_fault_of f = fault.Text f

-- the reading of the copy stopped so, after so many bytes
abbrev pub input_fault_of_copy : CopyFault → ReadStop → ℕ → InputFault
input_fault_of_copy copy.OutOfMemory stop count = fault.OutOfMemory
input_fault_of_copy (copy.NoPicture f offset) Whole count = fault.NoPicture f offset
input_fault_of_copy (copy.NoPicture f offset) stop count = fault.Read stop count

-- a copy of these bytes, whose reading stopped so, is refused for this
abbrev pub IsCopyRefused : List ℕ → ReadStop → InputFault → Type 0
IsCopyRefused bytes stop answer = (f : CopyFault) × CopyGivesNone bytes f × (answer ≡ input_fault_of_copy f stop (length bytes))
