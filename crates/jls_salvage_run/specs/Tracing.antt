-- The trace of a damaged copy: lines of ASCII, each of which ends with a newline. Numbers are decimal.
use Rattle.std.specs.Prelude.{ℕ, ◌-◌, List, [], ◌++◌, length, codes, decimal, nat_lt, if◌then◌else◌, Option, Some, None}
use Rattle.std.specs.List.{flat_map}
use Rattle.jls_marker.specs.Faults.{fault_number}
use Rattle.jls_copy.specs.declared.end.End.{End}
use Rattle.jls_copy.specs.declared.end.End.TheVariants.{Eoi, Input, Header}
use Rattle.jls_copy.specs.declared.piece.PieceKind.{PieceKind}
use Rattle.jls_copy.specs.declared.piece.PieceKind.TheVariants.{Broken, Long, Beyond}
use Rattle.jls_copy.specs.declared.piece.PieceRecord.{PieceRecord}
use Rattle.jls_station.specs.Given.{FoundCopy, Given}
use Rattle.jls_station.specs.declared.input.ReadStop.{ReadStop}
use Rattle.jls_station.specs.declared.input.ReadStop.TheVariants.{Whole, Failed, Turns}

-- the word for the kind of a faulty piece
abbrev pub kind_text : PieceKind → List ℕ
kind_text Broken = codes " broken\n"
kind_text Long = codes " long\n"
kind_text Beyond = codes " beyond\n"

-- a piece that did not read: its scan, its number, the offset of its first byte, and why
abbrev pub piece_line : PieceRecord → List ℕ
piece_line r = codes "piece " ++ decimal r.scan ++ codes " " ++ decimal r.interval ++ codes " " ++ decimal r.offset ++ kind_text r.kind

-- how many such pieces there are beside those that were kept, if there are any
abbrev pub more_line : ℕ → ℕ → List ℕ
more_line kept count = if nat_lt kept count then codes "pieces more " ++ decimal (count - kept) ++ codes "\n" else []

-- where the copy ended, with the number of the fault that ended it
abbrev pub end_line : End → List ℕ
end_line (Eoi offset) = codes "end eoi " ++ decimal offset ++ codes "\n"
end_line (Input offset) = codes "end input " ++ decimal offset ++ codes "\n"
end_line (Header f offset) = codes "end fault " ++ decimal (fault_number f) ++ codes " " ++ decimal offset ++ codes "\n"

-- why it was not read to its end, with the number of bytes that were
abbrev pub stop_line : ReadStop → ℕ → List ℕ
stop_line Whole count = []
stop_line Failed count = codes "read failed " ++ decimal count ++ codes "\n"
stop_line Turns count = codes "read stopped " ++ decimal count ++ codes "\n"

-- the lines on a copy's faulty pieces, its end, and how its reading stopped
abbrev pub trace : FoundCopy → ReadStop → List ℕ
trace found stop =
    flat_map piece_line found.pieces ++ more_line (length found.pieces) found.piece_count
    ++ end_line found.ended ++ stop_line stop found.count

-- the trace, if the input is a copy
abbrev pub trace_of : Option FoundCopy → ReadStop → List ℕ
trace_of None stop = []
trace_of (Some found) stop = trace found stop

-- the trace of what an input gave: a text has none
abbrev pub trace_lines : Given → List ℕ
trace_lines g = trace_of g.copy g.stop
