-- A copy of one pixel of three components, 0, 7 and 0, which is interleaved by sample: the bytes of its scan are those that CharLS 2.4.1
-- writes. Under the wide profile it gives a line of each component. Under the strict one the scan ends it, and it gives none.
use Rattle.std.proofs.Common.{◌≡◌, ℕ, true, List, [], ◌∷◌, ◌++◌, Some, refl, lit<, lit≤, arith}
use Rattle.jls_values.specs.OrderedSet as set
use Rattle.jls_values.specs.Params.{CodingParameters, least_from}
use Rattle.jls_values.specs.Shape.{PictureShape}
use Rattle.jls_bits.specs.Bits.{bits, value_of_bits, width_after, bits_read_after, ends_data, is_whole_after}
use Rattle.jls_bits.specs.Golomb.{golomb}
use Rattle.jls_context.specs.Mode.{quantized_gradient, is_negative, context}
use Rattle.jls_context.specs.Errors.{modulo_reduced}
use Rattle.jls_context.specs.Prediction.{corrected_prediction}
use Rattle.jls_context.specs.Regular.{golomb_k, updated}
use Rattle.jls_context.specs.Interruption.{run_updated}
use Rattle.jls_interval.specs.Runs.{block_columns, full_blocks, blocks}
use Rattle.jls_pixel.specs.Events.{events_from, events_after}
use Rattle.jls_pixel.specs.Cells.{cell_before, run_cell_before, run_index_before}
use Rattle.jls_pixel.specs.Code.{sample_bits, bits_of_samples, event_bits, bits_of_events, pixel_code}
use Rattle.jls_piece.specs.Lines.{turned, rows_of}
use Rattle.jls_piece.specs.Reads.{Reads}
use Rattle.jls_marker.specs.ComponentIndex.{index_of}
use Rattle.jls_marker.specs.HeaderState.{HeaderState, no_headers_under}
use Rattle.jls_marker.specs.Headers.{headers_after}
use Rattle.jls_marker.specs.MarkerCodes.{has_segment}
use Rattle.jls_marker.specs.Scan.{Scan}
use Rattle.jls_marker.specs.declared.fault.MarkerFault.TheVariants.{Interleave}
use Rattle.jls_marker.specs.declared.profile.Profile.TheVariants.{Strict, Wide}
use Rattle.jls_partial.specs.Partial.{PartialPicture, without_sources}
use Rattle.jls_partial.specs.Reading.{Reading, reading_of, reading_cmp}
use Rattle.jls_copy.specs.Course.{by_marker, segment, scan, Course, IsCourse, IsCourseUnder, with_soi, at_eoi, at_refused_segment, for_good}
use Rattle.jls_copy.specs.CopyReads.{CopyReads, CopyReadsUnder}
use Rattle.jls_copy.specs.IntervalOf.{interval_of}
use Rattle.jls_copy.specs.Pieces.{Lines}
use Rattle.jls_copy.specs.ReadCopy.{ReadCopy}
use Rattle.jls_copy.specs.declared.end.End.TheVariants.{Eoi, Header}

-- The copy -------------------------------------------------------------------------------------------------------

abbrev pub shape : PictureShape
shape = record { precision = 8; width = 1; height = 1; ids = 1 ∷ 2 ∷ 3 ∷ [] }

abbrev bits_8 : CodingParameters
bits_8 = record { precision = 8; maxval = 255; t1 = 3; t2 = 7; t3 = 21; reset = 64 }

abbrev plan : Scan
plan = record { components = 0 ∷ 1 ∷ 2 ∷ []; params = bits_8; width = 1; height = 1; restart_interval = 0; by_sample = true }

abbrev frame : List ℕ
frame = 0x08 ∷ 0x00 ∷ 0x01 ∷ 0x00 ∷ 0x01 ∷ 0x03 ∷ 0x01 ∷ 0x11 ∷ 0x00 ∷ 0x02 ∷ 0x11 ∷ 0x00 ∷ 0x03 ∷ 0x11 ∷ 0x00 ∷ []

abbrev sos : List ℕ
sos = 0x03 ∷ 0x01 ∷ 0x00 ∷ 0x02 ∷ 0x00 ∷ 0x03 ∷ 0x00 ∷ 0x00 ∷ 0x02 ∷ 0x00 ∷ []

-- the scan data, and EOI
abbrev behind : List ℕ
behind = 0x40 ∷ 0x14 ∷ 0xFF ∷ 0xD9 ∷ []

-- SOS and what follows it
abbrev scanned : List ℕ
scanned = 0xFF ∷ 0xDA ∷ 0x00 ∷ 0x0C ∷ sos ++ behind

-- SOI and SOF55, and SOS on
abbrev pub copy : List ℕ
copy = 0xFF ∷ 0xD8 ∷ 0xFF ∷ 0xF7 ∷ 0x00 ∷ 0x11 ∷ frame ++ scanned

-- Under the wide profile -----------------------------------------------------------------------------------------

abbrev wide_framed : HeaderState
wide_framed = record (no_headers_under Wide) { frame = Some shape }

abbrev wide_final : HeaderState
wide_final = record wide_framed { scans = 1 }

abbrev wide_course : Course
wide_course = record {
  begin = 2;
  units = segment 0 0xF7 frame ∷ scan 0 0xDA sos plan [] (0x40 ∷ 0x14 ∷ []) by_marker ∷ [];
  headers = wide_final;
  end = Eoi 37;
}

wide_is_course : IsCourseUnder Wide copy wide_course
unfolding headers_after index_of has_segment
wide_is_course =
    with_soi 0 (0xFF ∷ 0xF7 ∷ 0x00 ∷ 0x11 ∷ frame ++ scanned) wide_course.units wide_final (Eoi 37) (
      wide_framed,
      scanned,
      refl,
      ((refl, lit< tt), refl),
      (
        wide_final,
        0xFF ∷ 0xD9 ∷ [],
        refl,
        (
          (refl, lit< tt),
          refl,
          tt,
          ((λ h. refl), (λ (h : 0x14 ≡ 0xFF). omega (arith, h))),
          record { fill = 0; code = 0xD9; following = []; bytes_are = refl; ends = refl },
        ),
        (refl, for_good wide_final 37 (0xFF ∷ 0xD9 ∷ []) (Eoi 37) (at_eoi wide_final 37 0 [] refl)),
      ),
    )

abbrev lines : List (List ℕ)
lines = (0 ∷ []) ∷ (7 ∷ []) ∷ (0 ∷ []) ∷ []

reads_by_sample : Reads (interval_of plan 0) (0x40 ∷ 0x14 ∷ []) lines
unfolding least_from bits value_of_bits width_after golomb quantized_gradient is_negative context modulo_reduced corrected_prediction golomb_k
    updated run_updated block_columns full_blocks blocks events_from events_after cell_before run_cell_before run_index_before sample_bits
    bits_of_samples event_bits bits_of_events pixel_code turned rows_of bits_read_after is_whole_after ends_data
reads_by_sample = record {
  unread = [];
  begins = record {
    are_bytes = (lit< tt, (lit< tt, tt));
    are_lines = record { count_is = refl; each = ((refl, (lit≤ tt, tt)), ((refl, (lit≤ tt, tt)), ((refl, (lit≤ tt, tt)), tt))) };
    whole_rows = λ h. (1, refl);
    data_bits = record { whole = refl; read = refl };
  };
  at_most_seven = lit≤ tt;
}

-- in the one row a line of each component
abbrev pub held : List Reading
held = reading_of 0 0 (0 ∷ []) ∷ reading_of 1 0 (7 ∷ []) ∷ reading_of 2 0 (0 ∷ []) ∷ []

abbrev pub partial_of : List Reading → PartialPicture
partial_of rs = without_sources shape (set.insert_all (set.empty {R = reading_cmp}) rs)

abbrev pub wide_read : ReadCopy
wide_read = record { partial = partial_of held; pieces = []; piece_count = 0; ended = Eoi 37 }

pub wide_reads : CopyReadsUnder Wide copy wide_read
wide_reads = record {
  course = wide_course;
  is_course = wide_is_course;
  shape = shape;
  framed = refl;
  outcomes = Lines lines ∷ [];
  each = (reads_by_sample, tt);
  head = [];
  head_is = refl;
  partial_is = refl;
  pieces_are = refl;
  count_is = refl;
  ended_is = refl;
}

-- Under the strict profile ---------------------------------------------------------------------------------------

abbrev framed : HeaderState
framed = record (no_headers_under Strict) { frame = Some shape }

abbrev course : Course
course = record { begin = 2; units = segment 0 0xF7 frame ∷ []; headers = framed; end = Header Interleave 21 }

has_course : IsCourse copy course
unfolding headers_after index_of has_segment
has_course =
    with_soi 0 (0xFF ∷ 0xF7 ∷ 0x00 ∷ 0x11 ∷ frame ++ scanned) course.units framed (Header Interleave 21) (
      framed,
      scanned,
      refl,
      ((refl, lit< tt), refl),
      (
        refl,
        for_good framed 21 scanned (Header Interleave 21) (at_refused_segment framed 21 0 0xDA sos behind Interleave (refl, lit< tt) refl),
      ),
    )

abbrev pub read : ReadCopy
read = record { partial = partial_of []; pieces = []; piece_count = 0; ended = Header Interleave 21 }

pub reads : CopyReads copy read
reads = record {
  course = course;
  is_course = has_course;
  shape = shape;
  framed = refl;
  outcomes = [];
  each = tt;
  head = [];
  head_is = refl;
  partial_is = refl;
  pieces_are = refl;
  count_is = refl;
  ended_is = refl;
}
