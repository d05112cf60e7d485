-- What the functions answer about a partial picture of four lines, a copy, bytes that give nothing, and samples that are to be written. The
-- numbers are those of include/jls_salvage.h; the rest is by hand.
use Rattle.std.proofs.Common.{◌≡◌, ℕ, false, List, [], ◌∷◌, map, length, refl, ap, lit≤}
use Rattle.std.specs.Prelude.{◌==◌, ◌&&◌, ◌^◌, count_by, nat_le}
use Rattle.std.specs.List.{filter, flat_map, range_with_len, list_any}
use Rattle.std.specs.List.Sorted.{IsStrictlySortedBy}
use Rattle.jls_values.specs.OrderedSet as set
use Rattle.jls_values.specs.OrderedSetLaws.{items-from_list}
use Rattle.jls_values.specs.Shape.{PictureShape}
use Rattle.jls_marker.specs.declared.fault.MarkerFault.TheVariants.{NoMarker, NoSoi}
use Rattle.jls_partial.specs.Partial.{PartialPicture, without_sources}
use Rattle.jls_partial.specs.Reading.{Reading, reading_of, reading_cmp}
use Rattle.jls_partial.specs.ReadingOrder.{reading_total}
use Rattle.jls_partial.specs.Status.{status_of}
use Rattle.jls_partial.specs.declared.status.Status.TheVariants.{Missing, Settled, Disputed}
use Rattle.jls_partial.specs.declared.text_fault.TextFault.TheVariants as text
use Rattle.jls_copy.specs.ReadCopy.{ReadCopy}
use Rattle.jls_copy.specs.declared.end.End.TheVariants.{Eoi, Input, Header}
use Rattle.jls_copy.specs.declared.piece.PieceKind.TheVariants.{Broken, Long, Beyond}
use Rattle.jls_copy.specs.declared.reader.CopyFault.TheVariants as fault
use Rattle.jls_c.specs.Answers.{BeginsWith}
use Rattle.jls_c.specs.Info.{info_of, info_of_partial, info_of_none, with_bytes, answer_of, refused_info, end_number, end_offset, end_fault}
use Rattle.jls_c.specs.Info.{kind_number, piece_of}
use Rattle.jls_c.specs.Lines.{status_number, line_statuses, lines_of, shown, shown_picture}
use Rattle.jls_c.specs.TextFaults.{info_of_no_partial, text_answer, text_fault_number}
use Rattle.jls_c.specs.Written.{ids_of, HasLargeSample}
use Rattle.jls_c.specs.declared.frame.JlsFrame.{JlsFrame}
use Rattle.jls_c.specs.declared.info.JlsInfo.{JlsInfo}
use Rattle.jls_c.specs.declared.lines.JlsLine.{JlsLine}

-- Numbers --------------------------------------------------------------------------------------------------------

record NumberExamples : Type 0 where
  statuses : map status_number (Missing ∷ Settled ∷ Disputed ∷ []) ≡ 0 ∷ 1 ∷ 2 ∷ []
  kinds : map kind_number (Broken ∷ Long ∷ Beyond ∷ []) ≡ 0 ∷ 1 ∷ 2 ∷ []
  -- of an end its number, its offset and its fault, which JLS_FAULT_NO_MARKER is
  at_eoi : end_number (Eoi 7) ∷ end_offset (Eoi 7) ∷ end_fault (Eoi 7) ∷ [] ≡ 0 ∷ 7 ∷ 0 ∷ []
  at_input : end_number (Input 7) ∷ end_offset (Input 7) ∷ end_fault (Input 7) ∷ [] ≡ 1 ∷ 7 ∷ 0 ∷ []
  at_header : end_number (Header NoMarker 7) ∷ end_offset (Header NoMarker 7) ∷ end_fault (Header NoMarker 7) ∷ [] ≡ 2 ∷ 7 ∷ 17 ∷ []
  text_faults : map text_fault_number (text.Magic 1 ∷ text.BadShape 1 ∷ text.Truncated 1 ∷ text.Place 1 ∷ text.Count 1 ∷ text.Order 1
      ∷ text.Sample 1 ∷ text.Trailing 1 ∷ [])
      ≡ 20 ∷ 21 ∷ 22 ∷ 23 ∷ 24 ∷ 25 ∷ 26 ∷ 27 ∷ []
  -- JLS_NO_PICTURE, JLS_OUT_OF_MEMORY; and of the second bytes of a join JLS_NO_SECOND_PARTIAL
  no_picture : answer_of (fault.NoPicture NoSoi 0) ≡ 2
  no_memory : answer_of fault.OutOfMemory ≡ 1
  no_second : text_answer (text.Order 9) 5 ≡ 5
  no_memory_for_text : text_answer text.OutOfMemory 5 ≡ 1

number_examples : NumberExamples
number_examples = record {
  statuses = refl;
  kinds = refl;
  at_eoi = refl;
  at_input = refl;
  at_header = refl;
  text_faults = refl;
  no_picture = refl;
  no_memory = refl;
  no_second = refl;
  no_memory_for_text = refl;
}

-- Bytes that give nothing ----------------------------------------------------------------------------------------

-- a fault of this number at this offset, and nothing else
abbrev fault_at : ℕ → ℕ → JlsInfo
fault_at number offset = record {
  samples = 0;
  bytes = 0;
  faulty_pieces = 0;
  end_offset = offset;
  lines = 0;
  missing = 0;
  settled = 0;
  disputed = 0;
  width = 0;
  height = 0;
  precision = 0;
  components = 0;
  end = 2;
  fault = number;
}

record NothingExamples : Type 0 where
  -- JLS_FAULT_NO_SOI and JLS_FAULT_TEXT_SAMPLE
  no_soi : info_of_none NoSoi 3 ≡ fault_at 18 3
  large_sample : info_of_no_partial (text.Sample 30) ≡ fault_at 26 30
  -- what stood there stays where memory was refused
  refused : refused_info (fault.NoPicture NoSoi 3) (fault_at 1 2) ≡ fault_at 18 3
  kept : refused_info fault.OutOfMemory (fault_at 1 2) ≡ fault_at 1 2

nothing_examples : NothingExamples
nothing_examples = record { no_soi = refl; large_sample = refl; refused = refl; kept = refl }

-- A partial picture ----------------------------------------------------------------------------------------------

abbrev shape : PictureShape
shape = record { precision = 8; width = 2; height = 2; ids = 1 ∷ 2 ∷ [] }

-- of the first component line 0 has one reading and line 1 has two; of the second line 0 has none and line 1 has one
abbrev held : List Reading
held = reading_of 0 0 (5 ∷ 7 ∷ []) ∷ reading_of 0 1 (1 ∷ 2 ∷ []) ∷ reading_of 0 1 (1 ∷ 3 ∷ []) ∷ reading_of 1 1 (0 ∷ 255 ∷ []) ∷ []

abbrev partial : PartialPicture
partial = without_sources shape (set.from_list {R = reading_cmp} held)

its_items : set.items partial.readings ≡ held
unfolding IsStrictlySortedBy
its_items = items-from_list reading_total held ((refl, (refl, (refl, tt))), ((refl, (refl, tt)), ((refl, tt), (tt, tt))))

-- what is told of each line, by the readings that are held
abbrev samples_at : List Reading → ℕ → ℕ → List (List ℕ)
samples_at rs component line =
    map (λ (r : Reading). r.samples) (filter (λ (r : Reading). r.component == component && r.line == line) rs)

abbrev of_lines : {X : Type 0} → (List (List ℕ) → X) → List Reading → List X
of_lines tell rs = flat_map (λ c. map (λ l. tell (samples_at rs c l)) (range_with_len 0 2)) (range_with_len 0 2)

its_statuses : line_statuses partial ≡ 1 ∷ 2 ∷ 0 ∷ 1 ∷ []
its_statuses = ap (of_lines (λ xs. status_number (status_of xs))) its_items

abbrev line_with : ℕ → ℕ → JlsLine
line_with readings status = record { readings = readings; status = status }

its_lines : lines_of partial ≡ line_with 1 1 ∷ line_with 2 2 ∷ line_with 0 0 ∷ line_with 1 1 ∷ []
its_lines = ap (of_lines (λ xs. line_with (length xs) (status_number (status_of xs)))) its_items

-- a line that isn't settled is shown as zeros
its_samples : shown_picture partial ≡ 5 ∷ 7 ∷ 0 ∷ 0 ∷ 0 ∷ 0 ∷ 0 ∷ 255 ∷ []
its_samples =
    ap (λ (rs : List Reading). flat_map (λ c. flat_map (λ l. shown 2 (samples_at rs c l)) (range_with_len 0 2)) (range_with_len 0 2))
    its_items

-- what is reported, by the statuses, of a copy that ends like this
abbrev reported : List ℕ → ℕ → ℕ → ℕ → ℕ → JlsInfo
reported statuses faulty offset end fault = record {
  samples = 8;
  bytes = 0;
  faulty_pieces = faulty;
  end_offset = offset;
  lines = 4;
  missing = count_by (λ s. s == 0) statuses;
  settled = count_by (λ s. s == 1) statuses;
  disputed = count_by (λ s. s == 2) statuses;
  width = 2;
  height = 2;
  precision = 8;
  components = 2;
  end = end;
  fault = fault;
}

abbrev with_counts : ℕ → ℕ → ℕ → ℕ → ℕ → JlsInfo
with_counts bytes faulty offset end fault = record {
  samples = 8;
  bytes = bytes;
  faulty_pieces = faulty;
  end_offset = offset;
  lines = 4;
  missing = 1;
  settled = 2;
  disputed = 1;
  width = 2;
  height = 2;
  precision = 8;
  components = 2;
  end = end;
  fault = fault;
}

its_info : info_of_partial partial ≡ with_counts 0 0 0 0 0
its_info = ap (λ (statuses : List ℕ). reported statuses 0 0 0 0) its_statuses

-- a copy that gives it, whose headers end with a fault at offset 90 after three faulty pieces
abbrev read : ReadCopy
read = record {
  partial = partial;
  pieces = record { scan = 1; interval = 3; offset = 70; kind = Long } ∷ [];
  piece_count = 3;
  ended = Header NoMarker 90;
}

its_copy : info_of read ≡ with_counts 0 3 90 2 17
its_copy = ap (λ (statuses : List ℕ). reported statuses 3 90 2 17) its_statuses

record ReportExamples : Type 0 where
  piece : map piece_of read.pieces ≡ record { offset = 70; interval = 3; scan = 1; kind = 1 } ∷ []
  bytes : with_bytes (with_counts 0 3 90 2 17) 60 ≡ with_counts 60 3 90 2 17
  -- two values go over the first two of three
  begins : BeginsWith {X = ℕ} (1 ∷ 2 ∷ []) (9 ∷ 8 ∷ 7 ∷ []) (1 ∷ 2 ∷ 7 ∷ [])

report_examples : ReportExamples
report_examples = record { piece = refl; bytes = refl; begins = refl }

-- Samples that are to be written ---------------------------------------------------------------------------------

abbrev frame : JlsFrame
frame = record { width = 2; height = 2; restart_interval = 0; precision = 8; components = 2; interleaved = 1 }

ids : ids_of 2 ≡ 1 ∷ 2 ∷ []
ids = refl

-- 256 has more than 8 bits, and 255 hasn't
too_large : HasLargeSample frame (255 ∷ 256 ∷ [])
too_large = record { shape = shape; is_shape = record { few = lit≤ tt; shape_is = refl }; large = refl }

largest : list_any (λ x. nat_le (2 ^ 8) x) (255 ∷ 0 ∷ []) ≡ false
largest = refl
