-- What a caller learns of what stops a mending.
use Rattle.std.specs.Prelude.{ℕ, Option, Some, None}
use Rattle.jls_marker.specs.Faults.{fault_number}
use Rattle.jls_c.specs.TextFaults.{text_answer, text_fault_number, text_fault_offset}
use Rattle.jls_station.specs.declared.input.InputFault.TheVariants as input
use Rattle.jls_cli.specs.declared.outcome.Cause.{Cause}
use Rattle.jls_cli.specs.declared.outcome.Cause.TheVariants.{NotOpened, Input, PartialPicture, NoPicture, NotRead, ShapeDiffers, Unsettled, TooLarge}
use Rattle.jls_cli.specs.declared.outcome.Cause.TheVariants.{NoList, NotCreated, NotWritten, FileNotCreated, FileNotWritten, OutOfMemory}
use Rattle.jls_mend.specs.declared.mending.MendRefusal.{MendRefusal}
use Rattle.jls_c.specs.declared.cause.JlsMendInfo.{JlsMendInfo}

-- the number of a cause, or 0 for want of memory
abbrev pub cause_number : Cause → ℕ
cause_number NotOpened = 1
cause_number (Input fault) = 2
cause_number PartialPicture = 3
cause_number (NoPicture fault offset) = 4
cause_number NotRead = 5
cause_number ShapeDiffers = 6
cause_number (Unsettled id line disputed) = 7
cause_number TooLarge = 8
cause_number (NoList line) = 9
cause_number NotCreated = 0
cause_number (NotWritten count) = 0
cause_number (FileNotCreated number) = 0
cause_number (FileNotWritten number count) = 0
cause_number OutOfMemory = 0

-- the number of the fault that it has, or 0
abbrev pub cause_fault : Cause → ℕ
cause_fault (Input (input.Text fault)) = text_fault_number fault
cause_fault (Input (input.NoPicture fault offset)) = fault_number fault
cause_fault (NoPicture fault offset) = fault_number fault
cause_fault _ = 0

-- where this is, in bytes, or 0
abbrev pub cause_offset : Cause → ℕ
cause_offset (Input (input.Text fault)) = text_fault_offset fault
cause_offset (Input (input.NoPicture fault offset)) = offset
cause_offset (Input (input.Read stop offset)) = offset
cause_offset (NoPicture fault offset) = offset
cause_offset _ = 0

-- the line of a list that is none, from 1 on, or 0
abbrev pub cause_line : Cause → ℕ
cause_line (NoList line) = line
cause_line _ = 0

-- what is answered: 1 where memory was refused, as an output in memory fails for nothing else; 15 for all other causes
abbrev pub mend_answer : Cause → ℕ
mend_answer (Input (input.Text fault)) = text_answer fault 15
mend_answer (Input input.OutOfMemory) = 1
mend_answer NotCreated = 1
mend_answer (NotWritten count) = 1
mend_answer (FileNotCreated number) = 1
mend_answer (FileNotWritten number count) = 1
mend_answer OutOfMemory = 1
mend_answer _ = 15

-- whether it showed at a copy, or at a list: 1 if it did
abbrev pub has_place : Option ℕ → ℕ
has_place None = 0
has_place (Some place) = 1

-- the number of this copy or list, from 0 on, or 0
abbrev pub place_at : Option ℕ → ℕ
place_at None = 0
place_at (Some place) = place

-- what is reported of a refusal
abbrev pub stopped_info : MendRefusal → JlsMendInfo
stopped_info v = record {
  bytes = 0;
  outputs = 0;
  lines = 0;
  copy = place_at v.copy;
  offset = cause_offset v.cause;
  has_copy = has_place v.copy;
  cause = cause_number v.cause;
  fault = cause_fault v.cause;
  has_file = 0;
  is_promised = 0;
  is_whole = 0;
  has_list = has_place v.list;
  list = place_at v.list;
  line = cause_line v.cause;
}
