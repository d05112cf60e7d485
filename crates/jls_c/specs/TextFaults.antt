-- What a caller learns of bytes that are no partial picture.
use Rattle.std.specs.Prelude.{ℕ}
use Rattle.jls_partial.specs.declared.text_fault.TextFault.{TextFault}
use Rattle.jls_partial.specs.declared.text_fault.TextFault.TheVariants.{Magic, BadShape, Truncated, Place, Count, Order, Sample, Trailing}
use Rattle.jls_partial.specs.declared.text_fault.TextFault.TheVariants.{OutOfMemory}
use Rattle.jls_c.specs.Info.{info_of_fault}
use Rattle.jls_c.specs.declared.info.JlsInfo.{JlsInfo}

-- the number of a fault, which goes on from those of the headers of a copy
abbrev pub text_fault_number : TextFault → ℕ
text_fault_number (Magic offset) = 20
text_fault_number (BadShape offset) = 21
text_fault_number (Truncated offset) = 22
text_fault_number (Place offset) = 23
text_fault_number (Count offset) = 24
text_fault_number (Order offset) = 25
text_fault_number (Sample offset) = 26
text_fault_number (Trailing offset) = 27
text_fault_number OutOfMemory = 0

-- where it is
abbrev pub text_fault_offset : TextFault → ℕ
text_fault_offset (Magic offset) = offset
text_fault_offset (BadShape offset) = offset
text_fault_offset (Truncated offset) = offset
text_fault_offset (Place offset) = offset
text_fault_offset (Count offset) = offset
text_fault_offset (Order offset) = offset
text_fault_offset (Sample offset) = offset
text_fault_offset (Trailing offset) = offset
text_fault_offset OutOfMemory = 0

-- what is reported of bytes with this fault
abbrev pub info_of_no_partial : TextFault → JlsInfo
info_of_no_partial fault = info_of_fault (text_fault_number fault) (text_fault_offset fault)

-- what is answered for a fault: this number, or 1 for memory that was refused
abbrev pub text_answer : TextFault → ℕ → ℕ
text_answer (Magic offset) number = number
text_answer (BadShape offset) number = number
text_answer (Truncated offset) number = number
text_answer (Place offset) number = number
text_answer (Count offset) number = number
text_answer (Order offset) number = number
text_answer (Sample offset) number = number
text_answer (Trailing offset) number = number
text_answer OutOfMemory number = 1
