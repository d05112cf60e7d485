-- One picture in two codings: by line, and by plane in two scans. Each copy has lost an interval of each scan, and neither has each line. A
-- station that takes both holds the picture, and one that takes them in another order holds the same: each half of the main theorem. The
-- codes are by hand (T.87 A.7): a sample at the start of an interval is coded as the end of a run that has no sample. Its error is e = 0
-- for 0 (a whole run, 1), 1 for 1, 9 for 9 and -1 for 255. After the bit 0 of the run stands the code with k = 2 of 2|e| - 1, or of
-- 2|e| - 2 where e is below 0: 0 1 01 for 1, 0 00001 01 for 9, 0 1 00 for 255. The plain coder of interop/ writes these pieces too.
use Rattle.std.proofs.Common.{◌≡◌, ℕ, zero, suc, false, List, [], ◌∷◌, length, take, Some, None, refl, sym, lit<, lit≤, arith, inl}
use Rattle.std.specs.List.{AllByRecursion}
use Rattle.jls_values.specs.OrderedSet as set
use Rattle.jls_values.specs.Params.{least_from}
use Rattle.jls_values.specs.Shape.{PictureShape}
use Rattle.jls_bits.specs.Bits.{bits, width_after, bits_read_after, ends_data, is_whole_after}
use Rattle.jls_bits.specs.Golomb.{golomb}
use Rattle.jls_context.specs.Mode.{quantized_gradient, is_negative, context}
use Rattle.jls_context.specs.Errors.{modulo_reduced}
use Rattle.jls_context.specs.Prediction.{corrected_prediction}
use Rattle.jls_context.specs.Regular.{golomb_k, updated}
use Rattle.jls_context.specs.Interruption.{run_updated}
use Rattle.jls_interval.specs.Events.{events_from, events_after}
use Rattle.jls_interval.specs.Cells.{cell_before, run_cell_before}
use Rattle.jls_interval.specs.Runs.{block_columns, full_blocks, blocks, run_index_before}
use Rattle.jls_interval.specs.Code.{event_bits, bits_of_events, code}
use Rattle.jls_piece.specs.Lines.{piece_shape}
use Rattle.jls_interval.specs.Lines.{interval_shape}
use Rattle.jls_interval.specs.Reads as line_reading
use Rattle.jls_piece.specs.Reads.{IsBroken}
use Rattle.jls_piece.proofs.LinePieces.{reads_from}
use Rattle.jls_piece.proofs.PieceReads.{empty_is_broken}
use Rattle.jls_marker.specs.ComponentIndex.{index_of}
use Rattle.jls_marker.specs.HeaderState.{HeaderState, no_headers}
use Rattle.jls_marker.specs.Headers.{headers_after}
use Rattle.jls_marker.specs.MarkerCodes.{has_segment}
use Rattle.jls_marker.specs.Scan.{Scan}
use Rattle.jls_partial.specs.Partial.{PartialPicture, nothing_known, union, without_sources}
use Rattle.jls_partial.specs.Reading.{reading_cmp}
use Rattle.jls_copy.specs.CopyReads.{CopyReads}
use Rattle.jls_copy.specs.Course.{by_marker, segment, scan, Course, IsCourse, with_soi, at_eoi, for_good}
use Rattle.jls_copy.specs.Pieces.{pieces, PieceOutcome, Lines, Fault, readings, records}
use Rattle.jls_copy.specs.ReadCopy.{ReadCopy}
use Rattle.jls_copy.specs.declared.end.End.TheVariants.{Eoi}
use Rattle.jls_copy.specs.declared.piece.PieceKind.TheVariants as kind
use Rattle.jls_write.specs.Picture.{WholePicture}
use Rattle.jls_write.specs.WholePictures.{IsPicture}
use Rattle.jls_copy_laws.specs.CopyScans.{ScanWithData, HasScans}
use Rattle.jls_copy_laws.proofs.CopyScans.{course_has_scans}
use Rattle.jls_copy_laws.proofs.Members.{none_in, bytes_of_test}
use Rattle.jls_headline.specs.Collected.{of_readings, new_station, reader_finished, partial_taken, Collected, CollectedFrom}
use Rattle.jls_headline.specs.Damaged.{AreNumbers, Damaged, Survives, EachLineSurvives}
use Rattle.jls_headline.specs.Headline.{WritesThePicture}
use Rattle.jls_headline.specs.Sources.{SourcedCopy, sourced_copy, copies_of}
use Rattle.jls_headline.specs.Stations.{HoldsExactly, IsSameCopy, AreAmong, SameCopies}
use Rattle.jls_headline.specs.Trimmed.{whole, prefix, TrimmedCopy}
use Rattle.jls_headline.proofs.CollectedPictures.{same_copies_hold_the_same, damaged_copies_write_the_picture}
use Rattle.jls_headline.proofs.ColumnFiles.{byte_is_piece}
use Rattle.jls_headline.proofs.Trims.{trimmed_copies_are_damaged}
use Rattle.jls_headline.proofs.TwoLineCopies.{bits_8, piece_of, lost_first, pieces_read, outcomes_read}

-- The picture ----------------------------------------------------------------------------------------------------

abbrev shape : PictureShape
shape = record { precision = 8; width = 1; height = 2; ids = 1 ∷ 2 ∷ [] }

-- a column of 0 and 1, and one of 255 and 9
abbrev pic : WholePicture
pic = record { shape = shape; lines = ((0 ∷ []) ∷ (1 ∷ []) ∷ []) ∷ ((255 ∷ []) ∷ (9 ∷ []) ∷ []) ∷ [] }

is_picture : IsPicture pic
is_picture = record {
  shape = record {
    precision_at_least = lit≤ tt;
    precision_at_most = lit≤ tt;
    width_at_least = lit≤ tt;
    width_below = lit< tt;
    height_at_least = lit≤ tt;
    height_below = lit< tt;
    ids_at_least = lit≤ tt;
    ids_at_most = lit≤ tt;
    ids_are_bytes = (lit< tt, (lit< tt, tt));
    ids_differ = refl;
  };
  components = refl;
  each = (
    (refl, ((refl, (lit< tt, tt)), ((refl, (lit< tt, tt)), tt))),
    ((refl, ((refl, (lit< tt, tt)), ((refl, (lit< tt, tt)), tt))), tt),
  );
}

-- The copies -----------------------------------------------------------------------------------------------------

abbrev frame : List ℕ
frame = 8 ∷ 0 ∷ 2 ∷ 0 ∷ 1 ∷ 2 ∷ 1 ∷ 0x11 ∷ 0 ∷ 2 ∷ 0x11 ∷ 0 ∷ []

-- SOI, SOF55, and DRI with an interval for each row
abbrev headers_and : List ℕ → List ℕ
headers_and more =
    0xFF ∷ 0xD8 ∷ 0xFF ∷ 0xF7 ∷ 0 ∷ 0x0E ∷ 8 ∷ 0 ∷ 2 ∷ 0 ∷ 1 ∷ 2 ∷ 1 ∷ 0x11 ∷ 0 ∷ 2 ∷ 0x11 ∷ 0 ∷ 0xFF ∷ 0xDD ∷ 0 ∷ 4 ∷ 0 ∷ 1 ∷ more

abbrev sos_of_both : List ℕ
sos_of_both = 2 ∷ 1 ∷ 0 ∷ 2 ∷ 0 ∷ 0 ∷ 1 ∷ 0 ∷ []

abbrev sos_of : ℕ → List ℕ
sos_of id = 1 ∷ id ∷ 0 ∷ 0 ∷ 0 ∷ 0 ∷ []

-- by line, with row 1 alone: the bytes of the first interval are lost
abbrev by_line : List ℕ
by_line =
    headers_and (0xFF ∷ 0xDA ∷ 0 ∷ 0x0A ∷ 2 ∷ 1 ∷ 0 ∷ 2 ∷ 0 ∷ 0 ∷ 1 ∷ 0 ∷ 0xFF ∷ 0xD0 ∷ 0x50 ∷ 0x50 ∷ 0xFF ∷ 0xD9 ∷ [])

-- by plane, with row 0 alone: the mark and the second interval of each scan are lost
abbrev after_plane : List ℕ
after_plane = 0 ∷ 8 ∷ 1 ∷ 2 ∷ 0 ∷ 0 ∷ 0 ∷ 0 ∷ 0x40 ∷ 0xFF ∷ 0xD9 ∷ []

abbrev by_plane : List ℕ
by_plane = headers_and (0xFF ∷ 0xDA ∷ 0 ∷ 8 ∷ 1 ∷ 1 ∷ 0 ∷ 0 ∷ 0 ∷ 0 ∷ 0x80 ∷ 0xFF ∷ 0xDA ∷ after_plane)

-- Their courses --------------------------------------------------------------------------------------------------

abbrev lines : Scan
lines = record { components = 0 ∷ 1 ∷ []; params = bits_8; width = 1; height = 2; restart_interval = 1; by_sample = false }

abbrev plane : ℕ → Scan
plane component =
    record { components = component ∷ []; params = bits_8; width = 1; height = 2; restart_interval = 1; by_sample = false }

abbrev framed : HeaderState
framed = record no_headers { frame = Some shape }

abbrev restarting : HeaderState
restarting = record framed { restart_interval = 1 }

abbrev scanned : ℕ → HeaderState
scanned count = record restarting { scans = count }

abbrev line_course : Course
line_course = record {
  begin = 2;
  units = segment 0 0xF7 frame ∷ segment 0 0xDD (0 ∷ 1 ∷ [])
      ∷ scan 0 0xDA sos_of_both lines (lost_first ∷ []) (0x50 ∷ 0x50 ∷ []) by_marker ∷ [];
  headers = scanned 1;
  end = Eoi 40;
}

abbrev plane_course : Course
plane_course = record {
  begin = 2;
  units = segment 0 0xF7 frame ∷ segment 0 0xDD (0 ∷ 1 ∷ []) ∷ scan 0 0xDA (sos_of 1) (plane 0) [] (0x80 ∷ []) by_marker
      ∷ scan 0 0xDA (sos_of 2) (plane 1) [] (0x40 ∷ []) by_marker ∷ [];
  headers = scanned 2;
  end = Eoi 46;
}

by_line_is : IsCourse by_line line_course
unfolding headers_after index_of has_segment
by_line_is =
    with_soi 0 _ _ (scanned 1) (Eoi 40) (
      framed,
      _,
      refl,
      ((refl, lit< tt), refl),
      (
        restarting,
        _,
        refl,
        ((refl, lit< tt), refl),
        (
          scanned 1,
          0xFF ∷ 0xD9 ∷ [],
          refl,
          (
            (refl, lit< tt),
            refl,
            ((tt, lit< tt), tt),
            ((λ h. refl), byte_is_piece 0x50 (lit< tt)),
            record { fill = 0; code = 0xD9; following = []; bytes_are = refl; ends = refl },
          ),
          (refl, for_good (scanned 1) 40 (0xFF ∷ 0xD9 ∷ []) (Eoi 40) (at_eoi (scanned 1) 40 0 [] refl)),
        ),
      ),
    )

by_plane_is : IsCourse by_plane plane_course
unfolding headers_after index_of has_segment
by_plane_is =
    with_soi 0 _ _ (scanned 2) (Eoi 46) (
      framed,
      _,
      refl,
      ((refl, lit< tt), refl),
      (
        restarting,
        _,
        refl,
        ((refl, lit< tt), refl),
        (
          scanned 1,
          _,
          refl,
          (
            (refl, lit< tt),
            refl,
            tt,
            byte_is_piece 0x80 (lit< tt),
            record { fill = 0; code = 0xDA; following = after_plane; bytes_are = refl; ends = refl },
          ),
          (
            scanned 2,
            0xFF ∷ 0xD9 ∷ [],
            refl,
            (
              (refl, lit< tt),
              refl,
              tt,
              byte_is_piece 0x40 (lit< tt),
              record { fill = 0; code = 0xD9; following = []; bytes_are = refl; ends = refl },
            ),
            (refl, for_good (scanned 2) 46 (0xFF ∷ 0xD9 ∷ []) (Eoi 46) (at_eoi (scanned 2) 46 0 [] refl)),
          ),
        ),
      ),
    )

-- so they have these scans
abbrev line_data : ScanWithData
line_data = record { scan = lines; marks = 0 ∷ []; pieces = piece_of [] ∷ piece_of (0x50 ∷ 0x50 ∷ []) ∷ [] }

abbrev plane_data : ℕ → ℕ → ScanWithData
plane_data component byte = record { scan = plane component; marks = []; pieces = piece_of (byte ∷ []) ∷ [] }

abbrev planes : List ScanWithData
planes = plane_data 0 0x80 ∷ plane_data 1 0x40 ∷ []

line_scans : HasScans by_line shape (line_data ∷ [])
line_scans = course_has_scans by_line line_course shape (bytes_of_test by_line refl) by_line_is refl

plane_scans : HasScans by_plane shape planes
plane_scans = course_has_scans by_plane plane_course shape (bytes_of_test by_plane refl) by_plane_is refl

-- What the pieces read as ----------------------------------------------------------------------------------------

record RowsRead : Type 0 where
  -- 0 and 255 by line, the code of the interval that is lost
  row_0 : line_reading.Reads (interval_shape bits_8 1 2 2) (0xA0 ∷ []) ((0 ∷ []) ∷ (255 ∷ []) ∷ [])
  -- 1 and 9 by line
  row_1 : line_reading.Reads (interval_shape bits_8 1 2 2) (0x50 ∷ 0x50 ∷ []) ((1 ∷ []) ∷ (9 ∷ []) ∷ [])

rows_read : RowsRead
unfolding least_from bits width_after golomb quantized_gradient is_negative context modulo_reduced corrected_prediction golomb_k updated
    run_updated events_from events_after cell_before run_cell_before block_columns full_blocks blocks run_index_before event_bits
    bits_of_events code bits_read_after is_whole_after ends_data
rows_read = record {
  row_0 = record {
    unread = false ∷ false ∷ false ∷ [];
    begins = record {
      are_bytes = bytes_of_test (0xA0 ∷ []) refl;
      are_lines = record { count_is = refl; each = ((refl, (lit≤ tt, tt)), ((refl, (lit≤ tt, tt)), tt)) };
      data_bits = record { whole = refl; read = refl };
    };
    at_most_seven = lit≤ tt;
  };
  row_1 = record {
    unread = false ∷ false ∷ false ∷ false ∷ [];
    begins = record {
      are_bytes = bytes_of_test (0x50 ∷ 0x50 ∷ []) refl;
      are_lines = record { count_is = refl; each = ((refl, (lit≤ tt, tt)), ((refl, (lit≤ tt, tt)), tt)) };
      data_bits = record { whole = refl; read = refl };
    };
    at_most_seven = lit≤ tt;
  };
}

-- They are damaged copies, and each line survives ----------------------------------------------------------------

line_numbers : AreNumbers line_data (1 ∷ [])
line_numbers = record { rise = (lit< tt, lit≤ tt, lit< tt, tt); marks_are = refl }

plane_numbers : (component byte : ℕ) → AreNumbers (plane_data component byte) []
plane_numbers component byte = record { rise = tt; marks_are = refl }

by_line_is_trimmed : TrimmedCopy pic by_line
by_line_is_trimmed = (
  line_data ∷ [],
  line_scans,
  (
    (
      1 ∷ [],
      line_numbers,
      (
        record { bytes = 0xA0 ∷ []; reads = rows_read.row_0; trimmed = prefix [] (0xA0 ∷ []) },
        (record { bytes = 0x50 ∷ 0x50 ∷ []; reads = rows_read.row_1; trimmed = whole (0x50 ∷ 0x50 ∷ []) }, tt),
      ),
    ),
    tt,
  ),
)

by_plane_is_trimmed : TrimmedCopy pic by_plane
by_plane_is_trimmed = (
  planes,
  plane_scans,
  (
    (
      [],
      plane_numbers 0 0x80,
      (record { bytes = 0x80 ∷ []; reads = pieces_read.zero_read; trimmed = whole (0x80 ∷ []) }, tt),
    ),
    (
      (
        [],
        plane_numbers 1 0x40,
        (record { bytes = 0x40 ∷ []; reads = pieces_read.largest_read; trimmed = whole (0x40 ∷ []) }, tt),
      ),
      tt,
    ),
  ),
)

both_are_damaged : AllByRecursion (Damaged pic) (by_line ∷ by_plane ∷ [])
both_are_damaged = (
  trimmed_copies_are_damaged pic by_line by_line_is_trimmed,
  (trimmed_copies_are_damaged pic by_plane by_plane_is_trimmed, tt),
)

first_of_row_1 : Survives pic by_line 0 1
first_of_row_1 = (
  line_data ∷ [],
  line_scans,
  line_data,
  (0, lit< tt, refl),
  (
    1 ∷ [],
    line_numbers,
    1,
    piece_of (0x50 ∷ 0x50 ∷ []),
    (1, lit< tt, refl),
    (_, inl rows_read.row_1, (0, lit< tt, refl)),
  ),
)

second_of_row_1 : Survives pic by_line 1 1
second_of_row_1 = (
  line_data ∷ [],
  line_scans,
  line_data,
  (0, lit< tt, refl),
  (
    1 ∷ [],
    line_numbers,
    1,
    piece_of (0x50 ∷ 0x50 ∷ []),
    (1, lit< tt, refl),
    (_, inl rows_read.row_1, (1, lit< tt, refl)),
  ),
)

first_of_row_0 : Survives pic by_plane 0 0
first_of_row_0 = (
  planes,
  plane_scans,
  plane_data 0 0x80,
  (0, lit< tt, refl),
  ([], plane_numbers 0 0x80, 0, piece_of (0x80 ∷ []), (0, lit< tt, refl), (_, inl pieces_read.zero_read, (0, lit< tt, refl))),
)

second_of_row_0 : Survives pic by_plane 1 0
second_of_row_0 = (
  planes,
  plane_scans,
  plane_data 1 0x40,
  (1, lit< tt, refl),
  ([], plane_numbers 1 0x40, 0, piece_of (0x40 ∷ []), (0, lit< tt, refl), (_, inl pieces_read.largest_read, (0, lit< tt, refl))),
)

each_line_survives : EachLineSurvives pic (by_line ∷ by_plane ∷ [])
each_line_survives zero zero c l = (by_plane, (1, lit< tt, refl), first_of_row_0)
each_line_survives zero (suc zero) c l = (by_line, (0, lit< tt, refl), first_of_row_1)
each_line_survives (suc zero) zero c l = (by_plane, (1, lit< tt, refl), second_of_row_0)
each_line_survives (suc zero) (suc zero) c l = (by_line, (0, lit< tt, refl), second_of_row_1)
each_line_survives zero (suc (suc line)) c l = absurd (omega (arith, l))
each_line_survives (suc zero) (suc (suc line)) c l = absurd (omega (arith, l))
each_line_survives (suc (suc component)) line c l = absurd (omega (arith, c))

-- What a reader gives of them ------------------------------------------------------------------------------------

-- by the outcomes of the pieces of a course that ends with EOI
abbrev read_of : Course → List PieceOutcome → ReadCopy
read_of course outcomes = record {
  partial = without_sources shape (set.insert_all {R = reading_cmp} set.empty (readings (pieces course) outcomes));
  pieces = take 4096 (records (pieces course) outcomes);
  piece_count = length (records (pieces course) outcomes);
  ended = course.end;
}

abbrev line_read : ReadCopy
line_read = read_of line_course (Fault kind.Broken ∷ Lines ((1 ∷ []) ∷ (9 ∷ []) ∷ []) ∷ [])

abbrev plane_read : ReadCopy
plane_read = read_of plane_course (Lines ((0 ∷ []) ∷ []) ∷ Lines ((255 ∷ []) ∷ []) ∷ [])

-- no byte is the code of two lines
no_byte_is_broken : IsBroken (piece_shape bits_8 1 2 2 false) []
no_byte_is_broken = empty_is_broken (piece_shape bits_8 1 2 2 false) (lit< tt) (lit< tt) (lit< tt)

line_reads : CopyReads by_line line_read
line_reads = record {
  course = line_course;
  is_course = by_line_is;
  shape = shape;
  framed = refl;
  outcomes = Fault kind.Broken ∷ Lines ((1 ∷ []) ∷ (9 ∷ []) ∷ []) ∷ [];
  each = (
    no_byte_is_broken,
    (reads_from (interval_shape bits_8 1 2 2) (0x50 ∷ 0x50 ∷ []) ((1 ∷ []) ∷ (9 ∷ []) ∷ []) rows_read.row_1, tt),
  );
  head = [];
  head_is = refl;
  partial_is = refl;
  pieces_are = refl;
  count_is = refl;
  ended_is = refl;
}

plane_reads : CopyReads by_plane plane_read
plane_reads = record {
  course = plane_course;
  is_course = by_plane_is;
  shape = shape;
  framed = refl;
  outcomes = Lines ((0 ∷ []) ∷ []) ∷ Lines ((255 ∷ []) ∷ []) ∷ [];
  each = (outcomes_read.zero_read, (outcomes_read.largest_read, tt));
  head = [];
  head_is = refl;
  partial_is = refl;
  pieces_are = refl;
  count_is = refl;
  ended_is = refl;
}

-- Two stations ---------------------------------------------------------------------------------------------------

abbrev line_copy : SourcedCopy
line_copy = sourced_copy None by_line

abbrev plane_copy : SourcedCopy
plane_copy = sourced_copy None by_plane

line_alone : Collected of_readings line_read.partial (line_copy ∷ []) []
line_alone = reader_finished None by_line line_read line_read.partial (bytes_of_test by_line refl) line_reads refl

plane_alone : Collected of_readings plane_read.partial (plane_copy ∷ []) []
plane_alone = reader_finished None by_plane plane_read plane_read.partial (bytes_of_test by_plane refl) plane_reads refl

-- one takes the copy by line, and then that by plane
abbrev with_line : PartialPicture
with_line = union (nothing_known shape) line_read.partial

abbrev station : PartialPicture
station = union with_line plane_read.partial

collected : CollectedFrom station (line_copy ∷ plane_copy ∷ [])
collected = (
  [],
  partial_taken with_line station plane_read.partial (line_copy ∷ []) [] (plane_copy ∷ []) []
      (partial_taken (nothing_known shape) with_line line_read.partial [] [] (line_copy ∷ []) []
      (new_station shape (nothing_known shape) refl) line_alone refl refl)
      plane_alone refl refl,
  λ copy c. absurd (none_in copy c),
)

-- the other takes that by plane, and then twice that by line
abbrev with_plane : PartialPicture
with_plane = union (nothing_known shape) plane_read.partial

abbrev with_both : PartialPicture
with_both = union with_plane line_read.partial

abbrev other : PartialPicture
other = union with_both line_read.partial

abbrev others : List SourcedCopy
others = plane_copy ∷ line_copy ∷ line_copy ∷ []

also_collected : CollectedFrom other others
also_collected = (
  [],
  partial_taken with_both other line_read.partial (plane_copy ∷ line_copy ∷ []) [] (line_copy ∷ []) []
      (partial_taken with_plane with_both line_read.partial (plane_copy ∷ []) [] (line_copy ∷ []) []
      (partial_taken (nothing_known shape) with_plane plane_read.partial [] [] (plane_copy ∷ []) []
      (new_station shape (nothing_known shape) refl) plane_alone refl refl)
      line_alone refl refl)
      line_alone refl refl,
  λ copy c. absurd (none_in copy c),
)

among : AreAmong IsSameCopy (by_line ∷ by_plane ∷ []) (copies_of others)
among copy (zero, l, e) = (by_line, (1, lit< tt, refl), inl (sym e))
among copy (suc zero, l, e) = (by_plane, (0, lit< tt, refl), inl (sym e))
among copy (suc (suc k), l, e) = absurd (omega (arith, l))

among_back : AreAmong IsSameCopy (copies_of others) (by_line ∷ by_plane ∷ [])
among_back copy (zero, l, e) = (by_plane, (1, lit< tt, refl), inl (sym e))
among_back copy (suc zero, l, e) = (by_line, (0, lit< tt, refl), inl (sym e))
among_back copy (suc (suc zero), l, e) = (by_line, (0, lit< tt, refl), inl (sym e))
among_back copy (suc (suc (suc k)), l, e) = absurd (omega (arith, l))

same_copies : SameCopies (by_line ∷ by_plane ∷ []) (copies_of others)
same_copies = (among, among_back)

-- the first half of the theorem: both hold exactly what the two copies give, and so the same
hold_the_same : HoldsExactly station (by_line ∷ by_plane ∷ []) × HoldsExactly other (copies_of others) × (station.readings ≡ other.readings)
hold_the_same =
    same_copies_hold_the_same station other (line_copy ∷ plane_copy ∷ []) others collected also_collected refl same_copies

-- the second: they are the picture, and what is written of them reads as it
write_the_picture : WritesThePicture station pic
write_the_picture =
    damaged_copies_write_the_picture pic is_picture station (line_copy ∷ plane_copy ∷ []) collected both_are_damaged each_line_survives
