-- What a caller learns of a copy beside its lines.
use Rattle.std.specs.Prelude.{ℕ, ◌*◌, ◌==◌, length, count_by}
use Rattle.jls_copy.specs.ReadCopy.{ReadCopy}
use Rattle.jls_copy.specs.declared.end.End.{End}
use Rattle.jls_copy.specs.declared.end.End.TheVariants.{Eoi, Input, Header}
use Rattle.jls_copy.specs.declared.reader.CopyFault.{CopyFault}
use Rattle.jls_copy.specs.declared.reader.CopyFault.TheVariants.{NoPicture, OutOfMemory}
use Rattle.jls_copy.specs.declared.piece.PieceKind.{PieceKind}
use Rattle.jls_copy.specs.declared.piece.PieceKind.TheVariants.{Broken, Long, Beyond}
use Rattle.jls_copy.specs.declared.piece.PieceRecord.{PieceRecord}
use Rattle.jls_marker.specs.Faults.{fault_number}
use Rattle.jls_marker.specs.declared.fault.MarkerFault.{MarkerFault}
use Rattle.jls_partial.specs.Partial.{PartialPicture}
use Rattle.jls_values.specs.Shape.{PictureShape}
use Rattle.jls_c.specs.Lines.{line_statuses}
use Rattle.jls_c.specs.declared.info.JlsInfo.{JlsInfo}
use Rattle.jls_c.specs.declared.info.JlsPiece.{JlsPiece}

-- how many lines there are, in all components
abbrev pub line_count : PictureShape → ℕ
line_count shape = length shape.ids * shape.height

-- how many samples they have
abbrev pub sample_count : PictureShape → ℕ
sample_count shape = length shape.ids * (shape.height * shape.width)

-- how many lines have the status of this number
abbrev pub count_of : PartialPicture → ℕ → ℕ
count_of p number = count_by (λ status. status == number) (line_statuses p)

-- the number of an end: 0 for EOI, 1 for the input's end, 2 for a fault of the headers
abbrev pub end_number : End → ℕ
end_number (Eoi offset) = 0
end_number (Input offset) = 1
end_number (Header fault offset) = 2

-- where it is
abbrev pub end_offset : End → ℕ
end_offset (Eoi offset) = offset
end_offset (Input offset) = offset
end_offset (Header fault offset) = offset

-- the number of the fault, or 0
abbrev pub end_fault : End → ℕ
end_fault (Eoi offset) = 0
end_fault (Input offset) = 0
end_fault (Header fault offset) = fault_number fault

-- what is reported of a partial picture: its shape, and how many lines have each status
abbrev pub info_of_partial : PartialPicture → JlsInfo
info_of_partial p = record {
  samples = sample_count p.shape;
  bytes = 0;
  faulty_pieces = 0;
  end_offset = 0;
  lines = line_count p.shape;
  missing = count_of p 0;
  settled = count_of p 1;
  disputed = count_of p 2;
  width = p.shape.width;
  height = p.shape.height;
  precision = p.shape.precision;
  components = length p.shape.ids;
  end = 0;
  fault = 0;
}

-- what is reported of a copy that was read
abbrev pub info_of : ReadCopy → JlsInfo
info_of read = record {
  samples = sample_count read.partial.shape;
  bytes = 0;
  faulty_pieces = read.piece_count;
  end_offset = end_offset read.ended;
  lines = line_count read.partial.shape;
  missing = count_of read.partial 0;
  settled = count_of read.partial 1;
  disputed = count_of read.partial 2;
  width = read.partial.shape.width;
  height = read.partial.shape.height;
  precision = read.partial.shape.precision;
  components = length read.partial.shape.ids;
  end = end_number read.ended;
  fault = end_fault read.ended;
}

-- the same, with this many bytes that are written
abbrev pub with_bytes : JlsInfo → ℕ → JlsInfo
with_bytes info bytes = record {
  samples = info.samples;
  bytes = bytes;
  faulty_pieces = info.faulty_pieces;
  end_offset = info.end_offset;
  lines = info.lines;
  missing = info.missing;
  settled = info.settled;
  disputed = info.disputed;
  width = info.width;
  height = info.height;
  precision = info.precision;
  components = info.components;
  end = info.end;
  fault = info.fault;
}

-- what is reported of bytes that give nothing: the number of the fault, and where it is
abbrev pub info_of_fault : ℕ → ℕ → JlsInfo
info_of_fault number offset = record {
  samples = 0;
  bytes = 0;
  faulty_pieces = 0;
  end_offset = offset;
  lines = 0;
  missing = 0;
  settled = 0;
  disputed = 0;
  width = 0;
  height = 0;
  precision = 0;
  components = 0;
  end = 2;
  fault = number;
}

-- what is reported of a copy without a frame
abbrev pub info_of_none : MarkerFault → ℕ → JlsInfo
info_of_none fault offset = info_of_fault (fault_number fault) offset

-- what is answered where a copy gives nothing: 1 for memory that was refused, 2 for a copy without a frame
abbrev pub answer_of : CopyFault → ℕ
answer_of (NoPicture fault offset) = 2
answer_of OutOfMemory = 1

-- and what is reported then, over what stood there
abbrev pub refused_info : CopyFault → JlsInfo → JlsInfo
refused_info (NoPicture fault offset) old = info_of_none fault offset
refused_info OutOfMemory old = old

-- the number of a kind
abbrev pub kind_number : PieceKind → ℕ
kind_number Broken = 0
kind_number Long = 1
kind_number Beyond = 2

-- what is reported of a piece that didn't read as the lines of its interval
abbrev pub piece_of : PieceRecord → JlsPiece
piece_of r = record { offset = r.offset; interval = r.interval; scan = r.scan; kind = kind_number r.kind }
