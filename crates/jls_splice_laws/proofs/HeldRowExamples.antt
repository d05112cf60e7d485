-- A mended file of one pixel of three components, which is interleaved by sample. A copy has the bytes of its scan data, and no other byte
-- of it. The row has one code, so that each line of the row is held.
use Rattle.std.proofs.Common.{◌≡◌, ℕ, zero, suc, ◌+◌, ◌<◌, true, false, List, [], ◌∷◌, ◌++◌, Some, refl, arith, replicate, lit<, lit≤}
use Rattle.std.specs.List.{Contains}
use Rattle.jls_values.specs.Params.{CodingParameters, least_from}
use Rattle.jls_values.proofs.Lists.{none_in}
use Rattle.jls_bits.specs.Bits.{bits, value_of_bits, width_after, bits_read_after, ends_data, is_whole_after}
use Rattle.jls_bits.specs.Golomb.{golomb}
use Rattle.jls_context.specs.Mode.{quantized_gradient, is_negative, context}
use Rattle.jls_context.specs.Errors.{modulo_reduced}
use Rattle.jls_context.specs.Prediction.{corrected_prediction}
use Rattle.jls_context.specs.Regular.{golomb_k, updated}
use Rattle.jls_context.specs.Interruption.{run_updated}
use Rattle.jls_interval.specs.Runs.{block_columns, full_blocks, blocks}
use Rattle.jls_pixel.specs.Events.{events_from, events_after}
use Rattle.jls_pixel.specs.Cells.{cell_before, run_cell_before, run_index_before}
use Rattle.jls_pixel.specs.Code.{sample_bits, bits_of_samples, event_bits, bits_of_events, pixel_code}
use Rattle.jls_piece.specs.Lines.{turned, rows_of}
use Rattle.jls_piece.specs.Reads.{Reads}
use Rattle.jls_marker.specs.ComponentIndex.{index_of}
use Rattle.jls_marker.specs.HeaderState.{HeaderState, no_headers_under}
use Rattle.jls_marker.specs.Headers.{headers_after}
use Rattle.jls_marker.specs.MarkerCodes.{has_segment}
use Rattle.jls_marker.specs.Scan.{Scan}
use Rattle.jls_marker.specs.declared.profile.Profile.TheVariants.{Wide}
use Rattle.jls_partial.specs.Reading.{Reading}
use Rattle.jls_copy.specs.Course.{by_marker, segment, scan, Course, IsCourseUnder, with_soi, at_eoi, for_good}
use Rattle.jls_copy.specs.IntervalOf.{interval_of}
use Rattle.jls_copy.specs.Numbers.{Interval}
use Rattle.jls_copy.specs.declared.end.End.TheVariants.{Eoi}
use Rattle.jls_copy_laws.proofs.SampleExamples.{shape, copy, held}
use Rattle.jls_held.specs.MendedFiles.{MendedFile, IsHeldByte}
use Rattle.jls_held.specs.HeldLines.{PieceOf, IsHeld, in_piece}

-- The file -------------------------------------------------------------------------------------------------------------

abbrev bits_8 : CodingParameters
bits_8 = record { precision = 8; maxval = 255; t1 = 3; t2 = 7; t3 = 21; reset = 64 }

abbrev plan : Scan
plan = record { components = 0 ∷ 1 ∷ 2 ∷ []; params = bits_8; width = 1; height = 1; restart_interval = 0; by_sample = true }

abbrev frame : List ℕ
frame = 0x08 ∷ 0x00 ∷ 0x01 ∷ 0x00 ∷ 0x01 ∷ 0x03 ∷ 0x01 ∷ 0x11 ∷ 0x00 ∷ 0x02 ∷ 0x11 ∷ 0x00 ∷ 0x03 ∷ 0x11 ∷ 0x00 ∷ []

abbrev sos : List ℕ
sos = 0x03 ∷ 0x01 ∷ 0x00 ∷ 0x02 ∷ 0x00 ∷ 0x03 ∷ 0x00 ∷ 0x00 ∷ 0x02 ∷ 0x00 ∷ []

-- the scan data, and EOI
abbrev behind : List ℕ
behind = 0x40 ∷ 0x14 ∷ 0xFF ∷ 0xD9 ∷ []

-- SOS and what follows it
abbrev scanned : List ℕ
scanned = 0xFF ∷ 0xDA ∷ 0x00 ∷ 0x0C ∷ sos ++ behind

abbrev framed : HeaderState
framed = record (no_headers_under Wide) { frame = Some shape }

abbrev final : HeaderState
final = record framed { scans = 1 }

abbrev course : Course
course = record {
  begin = 2;
  units = segment 0 0xF7 frame ∷ scan 0 0xDA sos plan [] (0x40 ∷ 0x14 ∷ []) by_marker ∷ [];
  headers = final;
  end = Eoi 37;
}

course_is : IsCourseUnder Wide copy course
unfolding headers_after index_of has_segment
course_is =
    with_soi 0 (0xFF ∷ 0xF7 ∷ 0x00 ∷ 0x11 ∷ frame ++ scanned) course.units final (Eoi 37) (
      framed,
      scanned,
      refl,
      ((refl, lit< tt), refl),
      (
        final,
        0xFF ∷ 0xD9 ∷ [],
        refl,
        (
          (refl, lit< tt),
          refl,
          tt,
          ((λ h. refl), (λ (h : 0x14 ≡ 0xFF). omega (arith, h))),
          record { fill = 0; code = 0xD9; following = []; bytes_are = refl; ends = refl },
        ),
        (refl, for_good final 37 (0xFF ∷ 0xD9 ∷ []) (Eoi 37) (at_eoi final 37 0 [] refl)),
      ),
    )

abbrev lines : List (List ℕ)
lines = (0 ∷ []) ∷ (7 ∷ []) ∷ (0 ∷ []) ∷ []

reads_by_sample : Reads (interval_of plan 0) (0x40 ∷ 0x14 ∷ []) lines
unfolding least_from bits value_of_bits width_after golomb quantized_gradient is_negative context modulo_reduced corrected_prediction golomb_k
    updated run_updated block_columns full_blocks blocks events_from events_after cell_before run_cell_before run_index_before sample_bits
    bits_of_samples event_bits bits_of_events pixel_code turned rows_of bits_read_after is_whole_after ends_data
reads_by_sample = record {
  unread = [];
  begins = record {
    are_bytes = (lit< tt, (lit< tt, tt));
    are_lines = record { count_is = refl; each = ((refl, (lit≤ tt, tt)), ((refl, (lit≤ tt, tt)), ((refl, (lit≤ tt, tt)), tt))) };
    whole_rows = λ h. (1, refl);
    data_bits = record { whole = refl; read = refl };
  };
  at_most_seven = lit≤ tt;
}

-- What is held -----------------------------------------------------------------------------------------------------------

abbrev mended : MendedFile
mended = record { bytes = copy; held = replicate 35 false ++ (true ∷ true ∷ []) }

abbrev in_scan : PieceOf mended
in_scan = record {
  course = course;
  is_course = course_is;
  piece = record { scan = 0; plan = plan; number = Interval 0; offset = 35; bytes = 0x40 ∷ 0x14 ∷ [] };
  among = (0, lit< tt, refl);
  number = 0;
  number_is = refl;
}

held_at : (place : ℕ) → place < 2 → IsHeldByte mended (35 + place)
held_at zero l = refl
held_at (suc zero) l = refl
held_at (suc (suc place)) l = absurd (omega (arith, l))

-- each line of the row is held
row_is_held : (r : Reading) → Contains held r → IsHeld (mended ∷ []) r
row_is_held =
    in_piece (record {
      file = mended;
      among = (0, lit< tt, refl);
      piece = in_scan;
      before = [];
      lines = lines;
      together = refl;
      begins = record { at_most = lit≤ tt; unread = reads_by_sample.unread; begins = reads_by_sample.begins };
      held = λ place b. held_at place b.within;
    })
    (λ s among. absurd (none_in s among))
