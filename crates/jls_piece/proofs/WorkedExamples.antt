-- Worked examples: what the lines of a piece are written as, computed from the definitions alone. The bytes by sample are those that
-- CharLS 2.4.1 writes.
use Rattle.std.proofs.Common.{◌≡◌, false, true, [], ◌∷◌, refl, lit<, lit≤}
use Rattle.jls_values.specs.Params.{CodingParameters, least_from}
use Rattle.jls_bits.specs.Bits.{bits, value_of_bits, width_after, bits_read_after, ends_data, is_whole_after}
use Rattle.jls_bits.specs.Golomb.{golomb}
use Rattle.jls_bits.specs.Pad.{pad_after}
use Rattle.jls_context.specs.Mode.{quantized_gradient, is_negative, context}
use Rattle.jls_context.specs.Errors.{modulo_reduced}
use Rattle.jls_context.specs.Prediction.{corrected_prediction}
use Rattle.jls_context.specs.Regular.{golomb_k, updated}
use Rattle.jls_context.specs.Interruption.{run_updated}
use Rattle.jls_interval.specs.Events.{events_from as line_events_from, events_after as line_events_after}
use Rattle.jls_interval.specs.Cells.{cell_before as line_cell_before, run_cell_before as line_run_cell_before}
use Rattle.jls_interval.specs.Runs.{block_columns, full_blocks, blocks, run_index_before as line_run_index_before}
use Rattle.jls_interval.specs.Code.{event_bits as line_event_bits, bits_of_events as line_bits_of_events, code}
use Rattle.jls_pixel.specs.Events.{events_from, events_after}
use Rattle.jls_pixel.specs.Cells.{cell_before, run_cell_before, run_index_before}
use Rattle.jls_pixel.specs.Code.{sample_bits, bits_of_samples, event_bits, bits_of_events, pixel_code}
use Rattle.jls_piece.specs.Lines.{PieceShape, piece_shape, turned, lines_of, rows_of}
use Rattle.jls_piece.specs.Reads.{Reads, packed}

-- the defaults at 8 bits
abbrev bits_8 : CodingParameters
bits_8 = record { precision = 8; maxval = 255; t1 = 3; t2 = 7; t3 = 21; reset = 64 }

-- a row of one column and two components, by line
abbrev two_by_line : PieceShape
two_by_line = piece_shape bits_8 1 2 2 false

-- three rows of four columns and three components, by sample
abbrev three_by_sample : PieceShape
three_by_sample = piece_shape bits_8 4 3 9 true

-- a pixel of three components
abbrev pixel_by_sample : PieceShape
pixel_by_sample = piece_shape bits_8 1 3 3 true

record WorkedExamples : Type 0 where
  -- of two rows with three pixels each the lines: in each row the first samples of its pixels, and then the second ones
  lines_of_pixels : lines_of 2
      (((1 ∷ 2 ∷ []) ∷ (3 ∷ 4 ∷ []) ∷ (5 ∷ 6 ∷ []) ∷ []) ∷ ((7 ∷ 8 ∷ []) ∷ (9 ∷ 10 ∷ []) ∷ (11 ∷ 12 ∷ []) ∷ []) ∷ [])
      ≡ (1 ∷ 3 ∷ 5 ∷ []) ∷ (2 ∷ 4 ∷ 6 ∷ []) ∷ (7 ∷ 9 ∷ 11 ∷ []) ∷ (8 ∷ 10 ∷ 12 ∷ []) ∷ []
  rows_of_lines : rows_of 3 2 ((1 ∷ 3 ∷ 5 ∷ []) ∷ (2 ∷ 4 ∷ 6 ∷ []) ∷ (7 ∷ 9 ∷ 11 ∷ []) ∷ (8 ∷ 10 ∷ 12 ∷ []) ∷ [])
      ≡ ((1 ∷ 2 ∷ []) ∷ (3 ∷ 4 ∷ []) ∷ (5 ∷ 6 ∷ []) ∷ []) ∷ ((7 ∷ 8 ∷ []) ∷ (9 ∷ 10 ∷ []) ∷ (11 ∷ 12 ∷ []) ∷ []) ∷ []
  -- by line the bytes are those of the interval
  by_line : packed two_by_line ((10 ∷ []) ∷ (10 ∷ []) ∷ []) ≡ 0x07 ∷ 0x16 ∷ []
  -- by sample they are those of the pixels
  by_sample : packed three_by_sample
      ((0 ∷ 0 ∷ 5 ∷ 5 ∷ []) ∷ (0 ∷ 0 ∷ 0 ∷ 0 ∷ []) ∷ (0 ∷ 0 ∷ 9 ∷ 9 ∷ []) ∷ (0 ∷ 0 ∷ 5 ∷ 5 ∷ []) ∷ (0 ∷ 0 ∷ 0 ∷ 0 ∷ [])
      ∷ (0 ∷ 0 ∷ 9 ∷ 9 ∷ []) ∷ (0 ∷ 0 ∷ 0 ∷ 5 ∷ []) ∷ (0 ∷ 0 ∷ 0 ∷ 1 ∷ []) ∷ (0 ∷ 0 ∷ 0 ∷ 9 ∷ []) ∷ [])
      ≡ 0xC6 ∷ 0x80 ∷ 0xD2 ∷ 0x4D ∷ 0x12 ∷ 0x72 ∷ 0x68 ∷ []
  -- a pixel as three lines, and no bit over
  read_by_sample : Reads pixel_by_sample (0x40 ∷ 0x14 ∷ []) ((0 ∷ []) ∷ (7 ∷ []) ∷ (0 ∷ []) ∷ [])

worked_examples : WorkedExamples
unfolding least_from bits value_of_bits width_after golomb pad_after quantized_gradient is_negative context modulo_reduced
    corrected_prediction golomb_k updated run_updated line_events_from line_events_after line_cell_before line_run_cell_before block_columns
    full_blocks blocks line_run_index_before line_event_bits line_bits_of_events code events_from events_after cell_before run_cell_before
    run_index_before sample_bits bits_of_samples event_bits bits_of_events pixel_code turned rows_of bits_read_after is_whole_after
    ends_data
worked_examples = record {
  lines_of_pixels = refl;
  rows_of_lines = refl;
  by_line = refl;
  by_sample = refl;
  read_by_sample = record {
    unread = [];
    begins = record {
      are_bytes = (lit< tt, (lit< tt, tt));
      are_lines = record { count_is = refl; each = ((refl, (lit≤ tt, tt)), ((refl, (lit≤ tt, tt)), ((refl, (lit≤ tt, tt)), tt))) };
      whole_rows = λ h. (1, refl);
      data_bits = record { whole = refl; read = refl };
    };
    at_most_seven = lit≤ tt;
  };
}
