-- A picture of 2 columns and 2 rows, of two components and 16 bits, in two codings: by plane in 68 bytes, and by line in 58. Each copy has
-- lost bytes, and yet each line is held: all bytes of its code are held in one coding, and the lines before it there are held in one or
-- the other. Two other files of one picture have all these bytes, and are as long. They hide other code, another second scan and EOI in
-- what the copies lost, so that the held rest stands behind EOI, unread. So a line can be held, and not strictly; and the law of held lines
-- is false without skeletons, also if each line is held. The plain coder of interop/ writes these pieces for both pictures. The headers are
-- by hand.
use Rattle.std.proofs.Common.{◌≡◌, ℕ, ◌<◌, ◌≤◌, true, false, List, [], ◌∷◌, length, Some, refl, ap, subst, arith, inl, inr}
use Rattle.std.proofs.Common.{lit<, lit≤, get_or, drop}
use Rattle.std.specs.Prelude.{if◌then◌else◌, ◌==◌}
use Rattle.std.specs.List.{AllByRecursion, Contains}
use Rattle.std.proofs.lemmas.Bool.{agree_below_at}
use Rattle.jls_values.specs.Params.{CodingParameters, least_from}
use Rattle.jls_values.specs.Shape.{PictureShape}
use Rattle.jls_values.proofs.Lists.{none_in, first_or_rest, all_at}
use Rattle.jls_bits.specs.Bits.{bits, value_of_bits, width_after, bits_read, bits_read_after, ends_data, is_whole_after}
use Rattle.jls_bits.specs.Golomb.{golomb}
use Rattle.jls_context.specs.Mode.{quantized_gradient, is_negative, context}
use Rattle.jls_context.specs.Errors.{modulo_reduced}
use Rattle.jls_context.specs.Prediction.{corrected_prediction}
use Rattle.jls_context.specs.Regular.{golomb_k, updated}
use Rattle.jls_context.specs.Interruption.{run_updated}
use Rattle.jls_interval.specs.Lines.{sample_at, neighbours_at}
use Rattle.jls_interval.specs.Events.{events_from, events_after}
use Rattle.jls_interval.specs.Cells.{cell_before, run_cell_before}
use Rattle.jls_interval.specs.Runs.{block_columns, full_blocks, blocks, run_index_before}
use Rattle.jls_interval.specs.Code.{event_bits, bits_of_events, code}
use Rattle.jls_piece.specs.Reads.{Reads}
use Rattle.jls_partial.specs.Reading.{Reading, reading_of}
use Rattle.jls_marker.specs.ComponentIndex.{index_of}
use Rattle.jls_marker.specs.MarkerCodes.{has_segment}
use Rattle.jls_marker.specs.HeaderState.{HeaderState, no_headers_under}
use Rattle.jls_marker.specs.declared.profile.Profile.TheVariants.{Wide}
use Rattle.jls_marker.specs.Headers.{headers_after}
use Rattle.jls_marker.specs.Scan.{Scan}
use Rattle.jls_copy.specs.Numbers.{Interval}
use Rattle.jls_copy.specs.IntervalOf.{interval_of}
use Rattle.jls_copy.specs.Course.{by_marker, CopyUnit, segment, scan, Course, IsCourseUnder, with_soi, at_eoi, for_good}
use Rattle.jls_copy.specs.Pieces.{pieces}
use Rattle.jls_copy.specs.declared.end.End.TheVariants.{Eoi}
use Rattle.jls_held.specs.MendedFiles.{MendedFile, IsHeldByte}
use Rattle.jls_held.specs.Edits.{Edit, edited}
use Rattle.jls_copy.specs.InHand.{BeginsWithLines}
use Rattle.jls_held.specs.LineCode.{code_length}
use Rattle.jls_held.specs.HeldLines.{PieceOf, IsHeld, in_piece}
use Rattle.jls_held.proofs.LineBytes.{any_rows}
use Rattle.jls_carry_laws.specs.StrictlyHeld.{BeforePiece, IsStrictlyHeld, in_file}
use Rattle.jls_carry_laws.specs.TrueFiles.{PictureLines, IsTruePiece, HasTruePieces, IsTrueFile, HaveTrueFilesAsLong}
use Rattle.jls_carry_laws.specs.Laws.{StrictlyHeldLinesAreThePicture}
use Rattle.jls_carry_laws.proofs.EditedFiles.{refilled_edits_keep}
use Rattle.jls_carry_laws.proofs.ExampleTests.{bytes_of_test, piece_of_test, code_of_test}

-- The picture -------------------------------------------------------------------------------------------

abbrev shape : PictureShape
shape = record { precision = 16; width = 2; height = 2; ids = 1 ∷ 2 ∷ [] }

abbrev bits_16 : CodingParameters
bits_16 = record { precision = 16; maxval = 65535; t1 = 18; t2 = 67; t3 = 276; reset = 64 }

-- rows 0 and 1 of both components
abbrev first_0 : List ℕ
first_0 = 5000 ∷ 5000 ∷ []

abbrev first_1 : List ℕ
first_1 = 32768 ∷ 100 ∷ []

abbrev second_0 : List ℕ
second_0 = 65535 ∷ 5000 ∷ []

abbrev second_1 : List ℕ
second_1 = 2 ∷ 0 ∷ []

-- the other picture: its first component is 5000 throughout, and its second 0
abbrev zeros : List ℕ
zeros = 0 ∷ 0 ∷ []

abbrev other_picture : PictureLines
other_picture component row = if component == 0 then first_0 else zeros

-- The copies and their edits ------------------------------------------------------------------------------

-- what stands before the first SOS, and the payloads of SOS
abbrev frame : List ℕ
frame = 0x10 ∷ 0x00 ∷ 0x02 ∷ 0x00 ∷ 0x02 ∷ 0x02 ∷ 0x01 ∷ 0x11 ∷ 0x00 ∷ 0x02 ∷ 0x11 ∷ 0x00 ∷ []

abbrev sos_of_first : List ℕ
sos_of_first = 0x01 ∷ 0x01 ∷ 0x00 ∷ 0x00 ∷ 0x00 ∷ 0x00 ∷ []

abbrev sos_of_second : List ℕ
sos_of_second = 0x01 ∷ 0x02 ∷ 0x00 ∷ 0x00 ∷ 0x00 ∷ 0x00 ∷ []

abbrev sos_of_both : List ℕ
sos_of_both = 0x02 ∷ 0x01 ∷ 0x00 ∷ 0x02 ∷ 0x00 ∷ 0x00 ∷ 0x01 ∷ 0x00 ∷ []

-- the copy by plane, which has lost ten bytes in three places of its first scan
abbrev plane_copy : List ℕ
plane_copy =
    0xFF ∷ 0xD8 ∷ 0xFF ∷ 0xF7 ∷ 0x00 ∷ 0x0E ∷ 0x10 ∷ 0x00 ∷ 0x02 ∷ 0x00 ∷ 0x02 ∷ 0x02 ∷ 0x01 ∷ 0x11 ∷ 0x00 ∷ 0x02
    ∷ 0x11 ∷ 0x00 ∷ 0xFF ∷ 0xDA ∷ 0x00 ∷ 0x08 ∷ 0x01 ∷ 0x01 ∷ 0x00 ∷ 0x00 ∷ 0x00 ∷ 0x00 ∷ 0x00 ∷ 0x38 ∷ 0x7C ∷ 0x00
    ∷ 0x00 ∷ 0x00 ∷ 0x00 ∷ 0x00 ∷ 0x00 ∷ 0x00 ∷ 0x00 ∷ 0x00 ∷ 0x00 ∷ 0x00 ∷ 0x00 ∷ 0x00 ∷ 0x00 ∷ 0x00 ∷ 0x00 ∷ 0x1B
    ∷ 0x80 ∷ 0xFF ∷ 0xDA ∷ 0x00 ∷ 0x08 ∷ 0x01 ∷ 0x02 ∷ 0x00 ∷ 0x00 ∷ 0x00 ∷ 0x00 ∷ 0x40 ∷ 0x00 ∷ 0x07 ∷ 0x11 ∷ 0x80
    ∷ 0xB0 ∷ 0x10 ∷ 0xFF ∷ 0xD9 ∷ []

abbrev plane_edits : List ℕ → List ℕ → List ℕ → List Edit
plane_edits xs ys zs =
    record { offset = 32; count = 4; bytes = xs } ∷ record { offset = 37; count = 3; bytes = ys }
    ∷ record { offset = 44; count = 3; bytes = zs } ∷ []

-- the copy by line, which has lost four bytes
abbrev line_copy : List ℕ
line_copy =
    0xFF ∷ 0xD8 ∷ 0xFF ∷ 0xF7 ∷ 0x00 ∷ 0x0E ∷ 0x10 ∷ 0x00 ∷ 0x02 ∷ 0x00 ∷ 0x02 ∷ 0x02 ∷ 0x01 ∷ 0x11 ∷ 0x00 ∷ 0x02
    ∷ 0x11 ∷ 0x00 ∷ 0xFF ∷ 0xDA ∷ 0x00 ∷ 0x0A ∷ 0x02 ∷ 0x01 ∷ 0x00 ∷ 0x02 ∷ 0x00 ∷ 0x00 ∷ 0x01 ∷ 0x00 ∷ 0x00 ∷ 0x38
    ∷ 0x7C ∷ 0x00 ∷ 0x00 ∷ 0x00 ∷ 0x00 ∷ 0x00 ∷ 0x62 ∷ 0x20 ∷ 0x00 ∷ 0x00 ∷ 0x00 ∷ 0x00 ∷ 0x00 ∷ 0x3B ∷ 0x1D ∷ 0xE0
    ∷ 0x00 ∷ 0x00 ∷ 0x00 ∷ 0x3C ∷ 0xEA ∷ 0x02 ∷ 0xC0 ∷ 0x02 ∷ 0xFF ∷ 0xD9 ∷ []

abbrev line_edits : List ℕ → List Edit
line_edits xs = record { offset = 34; count = 4; bytes = xs } ∷ []

-- with the code of the picture, which each carries over the damage of the other
abbrev by_plane : MendedFile
by_plane = edited 0 plane_copy (plane_edits (0x00 ∷ 0x00 ∷ 0x00 ∷ 0x00 ∷ []) (0x01 ∷ 0xD8 ∷ 0xEF ∷ []) (0x00 ∷ 0x01 ∷ 0xFF ∷ []))

abbrev by_line : MendedFile
by_line = edited 0 line_copy (line_edits (0x40 ∷ 0x00 ∷ 0x00 ∷ 0x00 ∷ []))

abbrev files : List MendedFile
files = by_plane ∷ by_line ∷ []

-- with what ends the first scan and begins another second one, and with EOI
abbrev plane_other : List ℕ
plane_other = (edited 0 plane_copy (plane_edits (0x80 ∷ 0x10 ∷ 0xFF ∷ 0xDA ∷ []) (0x08 ∷ 0x01 ∷ 0x02 ∷ []) (0xF0 ∷ 0xFF ∷ 0xD9 ∷ []))).bytes

abbrev line_other : List ℕ
line_other = (edited 0 line_copy (line_edits (0xE0 ∷ 0x07 ∷ 0xFF ∷ 0xD9 ∷ []))).bytes

-- Their courses -----------------------------------------------------------------------------------------

abbrev plane : ℕ → Scan
plane component = record { components = component ∷ []; params = bits_16; width = 2; height = 2; restart_interval = 0; by_sample = false }

abbrev lines : Scan
lines = record { components = 0 ∷ 1 ∷ []; params = bits_16; width = 2; height = 2; restart_interval = 0; by_sample = false }

abbrev framed : HeaderState
framed = record (no_headers_under Wide) { frame = Some shape }

abbrev scanned : ℕ → HeaderState
scanned count = record framed { scans = count }

-- the pieces of the mended files
abbrev first_plane : List ℕ
first_plane =
    0x00 ∷ 0x38 ∷ 0x7C ∷ 0x00 ∷ 0x00 ∷ 0x00 ∷ 0x00 ∷ 0x00 ∷ 0x00 ∷ 0x01 ∷ 0xD8 ∷ 0xEF ∷ 0x00 ∷ 0x00 ∷ 0x00 ∷ 0x00
    ∷ 0x00 ∷ 0x01 ∷ 0xFF ∷ 0x1B ∷ 0x80 ∷ []

abbrev second_plane : List ℕ
second_plane = 0x40 ∷ 0x00 ∷ 0x07 ∷ 0x11 ∷ 0x80 ∷ 0xB0 ∷ 0x10 ∷ []

abbrev both_lines : List ℕ
both_lines =
    0x00 ∷ 0x38 ∷ 0x7C ∷ 0x00 ∷ 0x40 ∷ 0x00 ∷ 0x00 ∷ 0x00 ∷ 0x62 ∷ 0x20 ∷ 0x00 ∷ 0x00 ∷ 0x00 ∷ 0x00 ∷ 0x00 ∷ 0x3B
    ∷ 0x1D ∷ 0xE0 ∷ 0x00 ∷ 0x00 ∷ 0x00 ∷ 0x3C ∷ 0xEA ∷ 0x02 ∷ 0xC0 ∷ 0x02 ∷ []

-- and those of the other files
abbrev other_first : List ℕ
other_first = 0x00 ∷ 0x38 ∷ 0x7C ∷ 0x00 ∷ 0x80 ∷ 0x10 ∷ []

abbrev other_second : List ℕ
other_second = 0xF0 ∷ []

abbrev other_both : List ℕ
other_both = 0x00 ∷ 0x38 ∷ 0x7C ∷ 0x00 ∷ 0xE0 ∷ 0x07 ∷ []

abbrev plane_units : List ℕ → List ℕ → List CopyUnit
plane_units first second =
    segment 0 0xF7 frame ∷ scan 0 0xDA sos_of_first (plane 0) [] first by_marker
    ∷ scan 0 0xDA sos_of_second (plane 1) [] second by_marker ∷ []

abbrev line_units : List ℕ → List CopyUnit
line_units piece = segment 0 0xF7 frame ∷ scan 0 0xDA sos_of_both lines [] piece by_marker ∷ []

abbrev plane_course : List ℕ → List ℕ → ℕ → Course
plane_course first second end = record { begin = 2; units = plane_units first second; headers = scanned 2; end = Eoi end }

abbrev line_course : List ℕ → ℕ → Course
line_course piece end = record { begin = 2; units = line_units piece; headers = scanned 1; end = Eoi end }

by_plane_is : IsCourseUnder Wide by_plane.bytes (plane_course first_plane second_plane 66)
unfolding headers_after index_of has_segment
by_plane_is =
    with_soi 0 _ (plane_units first_plane second_plane) (scanned 2) (Eoi 66) (
      framed,
      _,
      refl,
      ((refl, lit< tt), refl),
      (
        scanned 1,
        _,
        refl,
        (
          (refl, lit< tt),
          refl,
          tt,
          piece_of_test first_plane refl,
          record { fill = 0; code = 0xDA; following = 0x00 ∷ 0x08 ∷ 0x01 ∷ 0x02 ∷ 0x00 ∷ 0x00 ∷ 0x00 ∷ 0x00 ∷ 0x40 ∷ 0x00 ∷ 0x07 ∷ 0x11 ∷ 0x80 ∷ 0xB0 ∷ 0x10 ∷ 0xFF ∷ 0xD9 ∷ []; bytes_are = refl; ends = refl },
        ),
        (
          scanned 2,
          0xFF ∷ 0xD9 ∷ [],
          refl,
          (
            (refl, lit< tt),
            refl,
            tt,
            piece_of_test second_plane refl,
            record { fill = 0; code = 0xD9; following = []; bytes_are = refl; ends = refl },
          ),
          (refl, for_good (scanned 2) 66 (0xFF ∷ 0xD9 ∷ []) (Eoi 66) (at_eoi (scanned 2) 66 0 [] refl)),
        ),
      ),
    )

by_line_is : IsCourseUnder Wide by_line.bytes (line_course both_lines 56)
unfolding headers_after index_of has_segment
by_line_is =
    with_soi 0 _ (line_units both_lines) (scanned 1) (Eoi 56) (
      framed,
      _,
      refl,
      ((refl, lit< tt), refl),
      (
        scanned 1,
        0xFF ∷ 0xD9 ∷ [],
        refl,
        (
          (refl, lit< tt),
          refl,
          tt,
          piece_of_test both_lines refl,
          record { fill = 0; code = 0xD9; following = []; bytes_are = refl; ends = refl },
        ),
        (refl, for_good (scanned 1) 56 (0xFF ∷ 0xD9 ∷ []) (Eoi 56) (at_eoi (scanned 1) 56 0 [] refl)),
      ),
    )

-- what stands behind EOI
abbrev plane_rest : List ℕ
plane_rest =
    0x1B ∷ 0x80 ∷ 0xFF ∷ 0xDA ∷ 0x00 ∷ 0x08 ∷ 0x01 ∷ 0x02 ∷ 0x00 ∷ 0x00 ∷ 0x00 ∷ 0x00 ∷ 0x40 ∷ 0x00 ∷ 0x07 ∷ 0x11
    ∷ 0x80 ∷ 0xB0 ∷ 0x10 ∷ 0xFF ∷ 0xD9 ∷ []

abbrev line_rest : List ℕ
line_rest =
    0x62 ∷ 0x20 ∷ 0x00 ∷ 0x00 ∷ 0x00 ∷ 0x00 ∷ 0x00 ∷ 0x3B ∷ 0x1D ∷ 0xE0 ∷ 0x00 ∷ 0x00 ∷ 0x00 ∷ 0x3C ∷ 0xEA ∷ 0x02
    ∷ 0xC0 ∷ 0x02 ∷ 0xFF ∷ 0xD9 ∷ []

plane_other_is : IsCourseUnder Wide plane_other (plane_course other_first other_second 45)
unfolding headers_after index_of has_segment
plane_other_is =
    with_soi 0 _ (plane_units other_first other_second) (scanned 2) (Eoi 45) (
      framed,
      _,
      refl,
      ((refl, lit< tt), refl),
      (
        scanned 1,
        _,
        refl,
        (
          (refl, lit< tt),
          refl,
          tt,
          piece_of_test other_first refl,
          record {
            fill = 0;
            code = 0xDA;
            following = 0x00 ∷ 0x08 ∷ 0x01 ∷ 0x02 ∷ 0x00 ∷ 0x00 ∷ 0x00 ∷ 0x00 ∷ 0xF0 ∷ 0xFF ∷ 0xD9 ∷ plane_rest;
            bytes_are = refl;
            ends = refl;
          },
        ),
        (
          scanned 2,
          0xFF ∷ 0xD9 ∷ plane_rest,
          refl,
          (
            (refl, lit< tt),
            refl,
            tt,
            piece_of_test other_second refl,
            record { fill = 0; code = 0xD9; following = plane_rest; bytes_are = refl; ends = refl },
          ),
          (refl, for_good (scanned 2) 45 (0xFF ∷ 0xD9 ∷ plane_rest) (Eoi 45) (at_eoi (scanned 2) 45 0 plane_rest refl)),
        ),
      ),
    )

line_other_is : IsCourseUnder Wide line_other (line_course other_both 36)
unfolding headers_after index_of has_segment
line_other_is =
    with_soi 0 _ (line_units other_both) (scanned 1) (Eoi 36) (
      framed,
      _,
      refl,
      ((refl, lit< tt), refl),
      (
        scanned 1,
        0xFF ∷ 0xD9 ∷ line_rest,
        refl,
        (
          (refl, lit< tt),
          refl,
          tt,
          piece_of_test other_both refl,
          record { fill = 0; code = 0xD9; following = line_rest; bytes_are = refl; ends = refl },
        ),
        (refl, for_good (scanned 1) 36 (0xFF ∷ 0xD9 ∷ line_rest) (Eoi 36) (at_eoi (scanned 1) 36 0 line_rest refl)),
      ),
    )

-- Which bits are whose ------------------------------------------------------------------------------------

record Computed : Type 0 where
  -- by plane the second component has 32 and 22 bits of 56
  none_by_plane : code_length (interval_of (plane 1) 0) [] ≡ 0
  one_by_plane : code_length (interval_of (plane 1) 0) (second_0 ∷ []) ≡ 32
  two_by_plane : code_length (interval_of (plane 1) 0) (second_0 ∷ second_1 ∷ []) ≡ 54
  -- by line the first three lines have 32, 43 and 107 bits of 208
  none_by_line : code_length (interval_of lines 0) [] ≡ 0
  one_by_line : code_length (interval_of lines 0) (first_0 ∷ []) ≡ 32
  two_by_line : code_length (interval_of lines 0) (first_0 ∷ second_0 ∷ []) ≡ 75
  three_by_line : code_length (interval_of lines 0) (first_0 ∷ second_0 ∷ first_1 ∷ []) ≡ 182

computed : Computed
unfolding least_from bits value_of_bits width_after golomb quantized_gradient is_negative context modulo_reduced corrected_prediction
    golomb_k updated run_updated events_from events_after cell_before run_cell_before block_columns full_blocks blocks run_index_before
    event_bits bits_of_events code bits_read_after is_whole_after ends_data sample_at neighbours_at
computed = record {
  none_by_plane = refl;
  one_by_plane = refl;
  two_by_plane = refl;
  none_by_line = refl;
  one_by_line = refl;
  two_by_line = refl;
  three_by_line = refl;
}

record Begun : Type 0 where
  first_by_line : BeginsWithLines (interval_of lines 0) both_lines (first_0 ∷ [])
  third_by_line : BeginsWithLines (interval_of lines 0) both_lines (first_0 ∷ second_0 ∷ first_1 ∷ [])
  first_by_plane : BeginsWithLines (interval_of (plane 1) 0) second_plane (second_0 ∷ [])
  second_by_plane : BeginsWithLines (interval_of (plane 1) 0) second_plane (second_0 ∷ second_1 ∷ [])

begun : Begun
unfolding least_from bits value_of_bits width_after golomb quantized_gradient is_negative context modulo_reduced corrected_prediction
    golomb_k updated run_updated events_from events_after cell_before run_cell_before block_columns full_blocks blocks run_index_before
    event_bits bits_of_events code bits_read_after is_whole_after ends_data sample_at neighbours_at
begun = record {
  first_by_line = record {
    at_most = lit≤ tt;
    unread = drop 32 (bits_read both_lines);
    begins = record {
      are_bytes = bytes_of_test both_lines refl;
      are_lines = record { count_is = refl; each = ((refl, (lit≤ tt, (lit≤ tt, tt))), tt) };
      whole_rows = any_rows (interval_of lines 0) refl (first_0 ∷ []);
      data_bits = record { whole = refl; read = refl };
    };
  };
  third_by_line = record {
    at_most = lit≤ tt;
    unread = drop 182 (bits_read both_lines);
    begins = record {
      are_bytes = bytes_of_test both_lines refl;
      are_lines = record { count_is = refl; each = ((refl, (lit≤ tt, (lit≤ tt, tt))), ((refl, (lit≤ tt, (lit≤ tt, tt))), ((refl, (lit≤ tt, (lit≤ tt, tt))), tt))) };
      whole_rows = any_rows (interval_of lines 0) refl (first_0 ∷ second_0 ∷ first_1 ∷ []);
      data_bits = record { whole = refl; read = refl };
    };
  };
  first_by_plane = record {
    at_most = lit≤ tt;
    unread = drop 32 (bits_read second_plane);
    begins = record {
      are_bytes = bytes_of_test second_plane refl;
      are_lines = record { count_is = refl; each = ((refl, (lit≤ tt, (lit≤ tt, tt))), tt) };
      whole_rows = any_rows (interval_of (plane 1) 0) refl (second_0 ∷ []);
      data_bits = record { whole = refl; read = refl };
    };
  };
  second_by_plane = record {
    at_most = lit≤ tt;
    unread = drop 54 (bits_read second_plane);
    begins = record {
      are_bytes = bytes_of_test second_plane refl;
      are_lines = record { count_is = refl; each = ((refl, (lit≤ tt, (lit≤ tt, tt))), ((refl, (lit≤ tt, (lit≤ tt, tt))), tt)) };
      whole_rows = any_rows (interval_of (plane 1) 0) refl (second_0 ∷ second_1 ∷ []);
      data_bits = record { whole = refl; read = refl };
    };
  };
}

-- Each line is held ---------------------------------------------------------------------------------------

abbrev in_lines : PieceOf by_line
in_lines = record {
  course = line_course both_lines 56;
  is_course = by_line_is;
  piece = record { scan = 0; plan = lines; number = Interval 0; offset = 30; bytes = both_lines };
  among = (0, lit< tt, refl);
  number = 0;
  number_is = refl;
}

abbrev in_second : PieceOf by_plane
in_second = record {
  course = plane_course first_plane second_plane 66;
  is_course = by_plane_is;
  piece = record { scan = 1; plan = plane 1; number = Interval 0; offset = 59; bytes = second_plane };
  among = (1, lit< tt, refl);
  number = 0;
  number_is = refl;
}

-- the first row of the first component, by line: its code ends before the lost bytes
first_0_is_held : IsHeld files (reading_of 0 0 first_0)
unfolding least_from bits value_of_bits width_after golomb quantized_gradient is_negative context modulo_reduced corrected_prediction
    golomb_k updated run_updated events_from events_after cell_before run_cell_before block_columns full_blocks blocks run_index_before
    event_bits bits_of_events code bits_read_after is_whole_after ends_data
first_0_is_held =
    in_piece (record {
      file = by_line;
      among = (1, lit< tt, refl);
      piece = in_lines;
      before = [];
      lines = first_0 ∷ [];
      together = refl;
      begins = begun.first_by_line;
      held = code_of_test by_line 30 (interval_of lines 0) both_lines [] (first_0 ∷ []) 0 32 computed.none_by_line computed.one_by_line refl;
    })
    (λ s among. absurd (none_in s among)) (reading_of 0 0 first_0) (0, lit< tt, refl)

-- the second component, by plane: its whole piece is held
second_0_is_held : IsHeld files (reading_of 1 0 second_0)
unfolding least_from bits value_of_bits width_after golomb quantized_gradient is_negative context modulo_reduced corrected_prediction
    golomb_k updated run_updated events_from events_after cell_before run_cell_before block_columns full_blocks blocks run_index_before
    event_bits bits_of_events code bits_read_after is_whole_after ends_data
second_0_is_held =
    in_piece (record {
      file = by_plane;
      among = (0, lit< tt, refl);
      piece = in_second;
      before = [];
      lines = second_0 ∷ [];
      together = refl;
      begins = begun.first_by_plane;
      held = code_of_test by_plane 59 (interval_of (plane 1) 0) second_plane [] (second_0 ∷ []) 0 32 computed.none_by_plane
          computed.one_by_plane refl;
    })
    (λ s among. absurd (none_in s among)) (reading_of 1 0 second_0) (0, lit< tt, refl)

-- one reading, or another
of_one : (r : Reading) → IsHeld files r → (s : Reading) → Contains (r ∷ []) s → IsHeld files s
of_one r h s among = elim (first_or_rest s r [] among) [
  | inl e ↦ subst (IsHeld files) e h
  | inr later ↦ absurd (none_in s later)
]

second_1_is_held : IsHeld files (reading_of 1 1 second_1)
unfolding least_from bits value_of_bits width_after golomb quantized_gradient is_negative context modulo_reduced corrected_prediction
    golomb_k updated run_updated events_from events_after cell_before run_cell_before block_columns full_blocks blocks run_index_before
    event_bits bits_of_events code bits_read_after is_whole_after ends_data
second_1_is_held =
    in_piece (record {
      file = by_plane;
      among = (0, lit< tt, refl);
      piece = in_second;
      before = second_0 ∷ [];
      lines = second_1 ∷ [];
      together = refl;
      begins = begun.second_by_plane;
      held = code_of_test by_plane 59 (interval_of (plane 1) 0) second_plane (second_0 ∷ []) (second_1 ∷ []) 32 54 computed.one_by_plane
          computed.two_by_plane refl;
    })
    (of_one (reading_of 1 0 second_0) second_0_is_held) (reading_of 1 1 second_1) (1, lit< tt, refl)

of_two : (r t : Reading) → IsHeld files r → IsHeld files t → (s : Reading) → Contains (r ∷ t ∷ []) s → IsHeld files s
of_two r t h k s among = elim (first_or_rest s r (t ∷ []) among) [
  | inl e ↦ subst (IsHeld files) e h
  | inr later ↦ of_one t k s later
]

-- the second row of the first component, by line: the code before it has lost bytes, but the line that they carry is held by plane
first_1_is_held : IsHeld files (reading_of 0 1 first_1)
unfolding least_from bits value_of_bits width_after golomb quantized_gradient is_negative context modulo_reduced corrected_prediction
    golomb_k updated run_updated events_from events_after cell_before run_cell_before block_columns full_blocks blocks run_index_before
    event_bits bits_of_events code bits_read_after is_whole_after ends_data
first_1_is_held =
    in_piece (record {
      file = by_line;
      among = (1, lit< tt, refl);
      piece = in_lines;
      before = first_0 ∷ second_0 ∷ [];
      lines = first_1 ∷ [];
      together = refl;
      begins = begun.third_by_line;
      held = code_of_test by_line 30 (interval_of lines 0) both_lines (first_0 ∷ second_0 ∷ []) (first_1 ∷ []) 75 182 computed.two_by_line
          computed.three_by_line refl;
    })
    (of_two (reading_of 0 0 first_0) (reading_of 1 0 second_0) first_0_is_held second_0_is_held) (reading_of 0 1 first_1) (2, lit< tt, refl)

-- The other files ------------------------------------------------------------------------------------------

record OtherReads : Type 0 where
  first : Reads (interval_of (plane 0) 0) other_first (first_0 ∷ first_0 ∷ [])
  second : Reads (interval_of (plane 1) 0) other_second (zeros ∷ zeros ∷ [])
  both : Reads (interval_of lines 0) other_both (first_0 ∷ zeros ∷ first_0 ∷ zeros ∷ [])

other_reads : OtherReads
unfolding least_from bits value_of_bits width_after golomb quantized_gradient is_negative context modulo_reduced corrected_prediction
    golomb_k updated run_updated events_from events_after cell_before run_cell_before block_columns full_blocks blocks run_index_before
    event_bits bits_of_events code bits_read_after is_whole_after ends_data sample_at neighbours_at
other_reads = record {
  first = record {
    unread = false ∷ false ∷ false ∷ false ∷ [];
    begins = record {
      are_bytes = bytes_of_test other_first refl;
      are_lines = record { count_is = refl; each = ((refl, (lit≤ tt, (lit≤ tt, tt))), ((refl, (lit≤ tt, (lit≤ tt, tt))), tt)) };
      whole_rows = any_rows (interval_of (plane 0) 0) refl (first_0 ∷ first_0 ∷ []);
      data_bits = record { whole = refl; read = refl };
    };
    at_most_seven = lit≤ tt;
  };
  second = record {
    unread = false ∷ false ∷ false ∷ false ∷ [];
    begins = record {
      are_bytes = bytes_of_test other_second refl;
      are_lines = record { count_is = refl; each = ((refl, (lit≤ tt, (lit≤ tt, tt))), ((refl, (lit≤ tt, (lit≤ tt, tt))), tt)) };
      whole_rows = any_rows (interval_of (plane 1) 0) refl (zeros ∷ zeros ∷ []);
      data_bits = record { whole = refl; read = refl };
    };
    at_most_seven = lit≤ tt;
  };
  both = record {
    unread = [];
    begins = record {
      are_bytes = bytes_of_test other_both refl;
      are_lines = record { count_is = refl; each = ((refl, (lit≤ tt, (lit≤ tt, tt))), ((refl, (lit≤ tt, (lit≤ tt, tt))), ((refl, (lit≤ tt, (lit≤ tt, tt))), ((refl, (lit≤ tt, (lit≤ tt, tt))), tt)))) };
      whole_rows = any_rows (interval_of lines 0) refl (first_0 ∷ zeros ∷ first_0 ∷ zeros ∷ []);
      data_bits = record { whole = refl; read = refl };
    };
    at_most_seven = lit≤ tt;
  };
}

plane_pieces : HasTruePieces other_picture (plane_course other_first other_second 45)
plane_pieces q among =
    all_at (λ q. (k : ℕ) × IsTruePiece other_picture q k) (pieces (plane_course other_first other_second 45)) q (
      (0, record { number_is = refl; lines = first_0 ∷ first_0 ∷ []; reads = other_reads.first; each = (refl, (refl, tt)) }),
      (
        (0, record { number_is = refl; lines = zeros ∷ zeros ∷ []; reads = other_reads.second; each = (refl, (refl, tt)) }),
        tt,
      ),
    ) among

line_pieces : HasTruePieces other_picture (line_course other_both 36)
line_pieces q among =
    all_at (λ q. (k : ℕ) × IsTruePiece other_picture q k) (pieces (line_course other_both 36)) q (
      (
        0,
        record {
          number_is = refl;
          lines = first_0 ∷ zeros ∷ first_0 ∷ zeros ∷ [];
          reads = other_reads.both;
          each = (refl, (refl, (refl, (refl, tt))));
        },
      ),
      tt,
    ) among

plane_is_true : IsTrueFile other_picture by_plane plane_other
plane_is_true =
    let kept = refilled_edits_keep plane_copy
    (plane_edits (0x00 ∷ 0x00 ∷ 0x00 ∷ 0x00 ∷ []) (0x01 ∷ 0xD8 ∷ 0xEF ∷ []) (0x00 ∷ 0x01 ∷ 0xFF ∷ []))
    (plane_edits (0x80 ∷ 0x10 ∷ 0xFF ∷ 0xDA ∷ []) (0x08 ∷ 0x01 ∷ 0x02 ∷ []) (0xF0 ∷ 0xFF ∷ 0xD9 ∷ []))
    (refl, refl, refl, (refl, refl, refl, (refl, refl, refl, tt))) in
    record {
      are_bytes = bytes_of_test plane_other refl;
      has_held = kept.0;
      course = plane_course other_first other_second 45;
      is_course = plane_other_is;
      each = plane_pieces;
    }

line_is_true : IsTrueFile other_picture by_line line_other
line_is_true =
    let kept = refilled_edits_keep line_copy (line_edits (0x40 ∷ 0x00 ∷ 0x00 ∷ 0x00 ∷ []))
    (line_edits (0xE0 ∷ 0x07 ∷ 0xFF ∷ 0xD9 ∷ [])) (refl, refl, refl, tt) in
    record {
      are_bytes = bytes_of_test line_other refl;
      has_held = kept.0;
      course = line_course other_both 36;
      is_course = line_other_is;
      each = line_pieces;
    }

each_file : (P : MendedFile → Type 0) → P by_plane → P by_line → (f : MendedFile) → Contains files f → P f
each_file P h k f among =
    elim (first_or_rest f by_plane (by_line ∷ []) among) [
      | inl e ↦ subst P e h
      | inr later ↦ elim (first_or_rest f by_line [] later) [
        | inl e ↦ subst P e k
        | inr none ↦ absurd (none_in f none)
      ]
    ]

others_are_true : HaveTrueFilesAsLong other_picture files
others_are_true =
    each_file (λ f. (bytes : List ℕ) × (IsTrueFile other_picture f bytes) × (length f.bytes ≤ length bytes))
    (plane_other, plane_is_true, lit≤ tt) (line_other, line_is_true, lit≤ tt)

-- so the line is held, and not strictly: else it were the other picture's too
first_1_is_not_strictly_held : StrictlyHeldLinesAreThePicture → IsStrictlyHeld files (reading_of 0 1 first_1) → ⊥
first_1_is_not_strictly_held law h =
    let claim : first_1 ≡ first_0 = law files other_picture
    (each_file (λ f. AllByRecursion (λ b. b < 256) f.bytes) (bytes_of_test by_plane.bytes refl) (bytes_of_test by_line.bytes refl))
    others_are_true (reading_of 0 1 first_1) h in
    let last : 100 ≡ 5000 = ap (λ xs. get_or xs 1 0) claim in omega (arith, last)

-- The line before the damage is strictly held -----------------------------------------------------------------

held_before : (offset : ℕ) → offset < 30 → IsHeldByte by_line offset
held_before offset l = agree_below_at (λ k. get_or by_line.held k false) (λ k. true) 30 offset refl l

abbrev before_lines : BeforePiece by_line in_lines
before_lines = record {
  earlier = [];
  later = [];
  pieces_are = refl;
  outcomes = [];
  are_outcomes = tt;
  none_faulty = refl;
  outside = λ offset before none. held_before offset before;
}

first_0_is_strictly_held : IsStrictlyHeld files (reading_of 0 0 first_0)
unfolding least_from bits value_of_bits width_after golomb quantized_gradient is_negative context modulo_reduced corrected_prediction
    golomb_k updated run_updated events_from events_after cell_before run_cell_before block_columns full_blocks blocks run_index_before
    event_bits bits_of_events code bits_read_after is_whole_after ends_data
first_0_is_strictly_held =
    in_file by_line (1, lit< tt, refl) in_lines [] (first_0 ∷ []) refl begun.first_by_line
    (code_of_test by_line 30 (interval_of lines 0) both_lines [] (first_0 ∷ []) 0 32 computed.none_by_line computed.one_by_line refl)
    before_lines (λ s among. absurd (none_in s among)) (λ s among. absurd (none_in s among)) (reading_of 0 0 first_0) (0, lit< tt, refl)
