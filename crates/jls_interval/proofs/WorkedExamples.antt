-- Worked examples: what lines are written as, and what bytes read as, computed from the definitions alone.
use Rattle.std.proofs.Common.{◌≡◌, true, false, [], ◌∷◌, replicate, refl, lit<, lit≤}
use Rattle.jls_values.specs.Params.{CodingParameters, least_from}
use Rattle.jls_bits.specs.Bits.{bits, value_of_bits, width_after, bits_read_after, ends_data, is_whole_after}
use Rattle.jls_bits.specs.Golomb.{golomb}
use Rattle.jls_bits.specs.Pad.{pad_after}
use Rattle.jls_context.specs.Mode.{quantized_gradient, is_negative, context}
use Rattle.jls_context.specs.Errors.{modulo_reduced}
use Rattle.jls_context.specs.Prediction.{corrected_prediction}
use Rattle.jls_context.specs.Regular.{golomb_k, updated}
use Rattle.jls_context.specs.Interruption.{run_updated}
use Rattle.jls_interval.specs.Lines.{interval_shape}
use Rattle.jls_interval.specs.Events.{run_to_end, interrupted_run, events_from, events_after, events}
use Rattle.jls_interval.specs.Cells.{cell_before, run_cell_before}
use Rattle.jls_interval.specs.Runs.{block_columns, full_blocks, blocks, run_index_before}
use Rattle.jls_interval.specs.Code.{event_bits, bits_of_events, code}
use Rattle.jls_interval.specs.Reads.{Reads, IsLong, packed}

-- the defaults at 8, 2 and 16 bits, and at 8 bits with MAXVAL 15
abbrev bits_8 : CodingParameters
bits_8 = record { precision = 8; maxval = 255; t1 = 3; t2 = 7; t3 = 21; reset = 64 }

abbrev bits_2 : CodingParameters
bits_2 = record { precision = 2; maxval = 3; t1 = 2; t2 = 3; t3 = 3; reset = 64 }

abbrev bits_16 : CodingParameters
bits_16 =
    record { precision = 16; maxval = 65535; t1 = 18; t2 = 67; t3 = 276; reset = 64 }

abbrev values_16 : CodingParameters
values_16 = record { precision = 8; maxval = 15; t1 = 2; t2 = 3; t3 = 4; reset = 64 }

record WorkedExamples : Type 0 where
  -- regular mode and runs of both kinds, with escapes; in the first column of the third line Rc is 0, the Ra of the line above
  picture_of_four_lines : packed bits_8 4 1
      ((0 ∷ 0 ∷ 90 ∷ 74 ∷ []) ∷ (68 ∷ 50 ∷ 43 ∷ 205 ∷ []) ∷ (64 ∷ 145 ∷ 145 ∷ 145 ∷ []) ∷ (100 ∷ 145 ∷ 145 ∷ 145 ∷ []) ∷ [])
      ≡ 0xC0 ∷ 0x00 ∷ 0x00 ∷ 0x6C ∷ 0x80 ∷ 0x20 ∷ 0x8E ∷ 0x01 ∷ 0xC0 ∷ 0x00 ∷ 0x00 ∷ 0x57 ∷ 0x40 ∷ 0x00 ∷ 0x00 ∷ 0x6E ∷ 0xE6 ∷ 0x00 ∷ 0x00
      ∷ 0x01 ∷ 0xBC ∷ 0x18 ∷ 0x00 ∷ 0x00 ∷ 0x05 ∷ 0xD8 ∷ 0x00 ∷ 0x00 ∷ 0x91 ∷ 0x60 ∷ []
  -- the error 255 is -1 modulo RANGE
  error_modulo_range : packed bits_8 1 1 ((255 ∷ []) ∷ []) ≡ 0x40 ∷ []
  -- EM is 1, which has the short code 1 01 and never the escape
  no_needless_escape : packed bits_8 1 1 ((1 ∷ []) ∷ []) ≡ 0x50 ∷ []
  -- the shortest samples
  at_2_bits : packed bits_2 1 1 ((3 ∷ []) ∷ []) ≡ 0x40 ∷ []
  -- the longest samples: k is 10 at the start
  at_16_bits : packed bits_16 1 1 ((65535 ∷ []) ∷ []) ≡ 0x40 ∷ 0x00 ∷ []
  -- a MAXVAL below the greatest sample of 8 bits
  with_maxval_15 : packed values_16 1 1 ((15 ∷ []) ∷ []) ≡ 0x40 ∷ []
  -- eight full blocks are eight ones, and a byte 0xFF is never the last
  twelve_zeros : packed bits_8 12 1 ((0 ∷ 0 ∷ 0 ∷ 0 ∷ 0 ∷ 0 ∷ 0 ∷ 0 ∷ 0 ∷ 0 ∷ 0 ∷ 0 ∷ []) ∷ []) ≡ 0xFF ∷ 0x00 ∷ []
  -- a column remains: one more one, after the stuffed bit
  thirteen_zeros : packed bits_8 13 1 ((0 ∷ 0 ∷ 0 ∷ 0 ∷ 0 ∷ 0 ∷ 0 ∷ 0 ∷ 0 ∷ 0 ∷ 0 ∷ 0 ∷ 0 ∷ []) ∷ []) ≡ 0xFF ∷ 0x40 ∷ []
  -- the ninth block has four columns, so that nothing remains
  sixteen_zeros : packed bits_8 16 1 ((0 ∷ 0 ∷ 0 ∷ 0 ∷ 0 ∷ 0 ∷ 0 ∷ 0 ∷ 0 ∷ 0 ∷ 0 ∷ 0 ∷ 0 ∷ 0 ∷ 0 ∷ 0 ∷ []) ∷ [])
      ≡ 0xFF ∷ 0x40 ∷ []
  -- J is 1 at the interruption, before RUNindex falls: the count has a bit, and the escape 21 zeros
  interrupted_after_four_blocks : packed bits_8 5 1 ((0 ∷ 0 ∷ 0 ∷ 0 ∷ 90 ∷ []) ∷ []) ≡ 0xF0 ∷ 0x00 ∷ 0x00 ∷ 0x1B ∷ 0x20 ∷ []
  -- the second run is interrupted under a sample other than its own value: RItype 0
  interrupted_under_another : packed bits_8 3 1 ((0 ∷ 0 ∷ 5 ∷ []) ∷ (0 ∷ 0 ∷ 5 ∷ []) ∷ []) ≡ 0xC5 ∷ 0xD0 ∷ []
  -- the second run goes on under it to the end of its line
  to_the_end_under_another : packed bits_8 3 1 ((0 ∷ 0 ∷ 5 ∷ []) ∷ (0 ∷ 0 ∷ 0 ∷ []) ∷ []) ≡ 0xC5 ∷ 0xE0 ∷ []
  -- the second line is in regular mode, since Rc is 0, two lines up, and Ra, Rb and Rd are 1
  rc_two_lines_up : packed bits_8 1 1 ((1 ∷ []) ∷ (34 ∷ []) ∷ []) ≡ 0x50 ∷ 0x00 ∷ 0x0C ∷ []
  -- the components share the cells: k is 2 for the first 10, and 3 for the second
  two_components : packed bits_8 1 2 ((10 ∷ []) ∷ (10 ∷ []) ∷ []) ≡ 0x07 ∷ 0x16 ∷ []
  -- each component has its own RUNindex: four columns are four blocks in each
  three_components : packed bits_8 4 3 ((0 ∷ 0 ∷ 0 ∷ 0 ∷ []) ∷ (0 ∷ 0 ∷ 0 ∷ 0 ∷ []) ∷ (0 ∷ 0 ∷ 0 ∷ 0 ∷ []) ∷ []) ≡ 0xFF ∷ 0x78 ∷ []
  -- the widest line is one run of 31 full blocks
  widest_run : blocks 0 65535 ≡ record { full_blocks = 31; run_index = 31; remaining = 32483 }
  -- the parting of the lines 0 0 5 and 0 0 0
  two_events : events 3 1 ((0 ∷ 0 ∷ 5 ∷ []) ∷ (0 ∷ 0 ∷ 0 ∷ []) ∷ [])
      ≡ interrupted_run 0 2 (record { ra = 0; rb = 0; rc = 0; rd = 0 }) 5 ∷ run_to_end 0 3 ∷ []
  -- 0xC0 reads as the sample 0: seven bits follow its code, and may have any value
  read_with_seven_bits : Reads (interval_shape bits_8 1 1 1) (0xC0 ∷ []) ((0 ∷ []) ∷ [])
  -- 0x80 0x00 is too long for it: fifteen bits follow
  too_long : IsLong (interval_shape bits_8 1 1 1) (0x80 ∷ 0x00 ∷ [])

worked_examples : WorkedExamples
unfolding least_from bits value_of_bits width_after golomb pad_after quantized_gradient is_negative context modulo_reduced
    corrected_prediction golomb_k updated run_updated events_from events_after cell_before run_cell_before block_columns full_blocks blocks
    run_index_before event_bits bits_of_events code bits_read_after is_whole_after ends_data
worked_examples = record {
  picture_of_four_lines = refl;
  error_modulo_range = refl;
  no_needless_escape = refl;
  at_2_bits = refl;
  at_16_bits = refl;
  with_maxval_15 = refl;
  twelve_zeros = refl;
  thirteen_zeros = refl;
  sixteen_zeros = refl;
  interrupted_after_four_blocks = refl;
  interrupted_under_another = refl;
  to_the_end_under_another = refl;
  rc_two_lines_up = refl;
  two_components = refl;
  three_components = refl;
  widest_run = refl;
  two_events = refl;
  read_with_seven_bits = record {
    unread = true ∷ false ∷ false ∷ false ∷ false ∷ false ∷ false ∷ [];
    begins = record {
      are_bytes = (lit< tt, tt);
      are_lines = record { count_is = refl; each = ((refl, (lit≤ tt, tt)), tt) };
      data_bits =
          record { whole = refl; read = refl };
    };
    at_most_seven = lit≤ tt;
  };
  too_long = record {
    lines = (0 ∷ []) ∷ [];
    unread = replicate 15 false;
    begins = record {
      are_bytes = (lit< tt, (lit< tt, tt));
      are_lines = record { count_is = refl; each = ((refl, (lit≤ tt, tt)), tt) };
      data_bits = record { whole = refl; read = refl };
    };
    more_than_seven = lit< tt;
  };
}
