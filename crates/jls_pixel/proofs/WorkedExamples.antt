-- Worked examples: what rows of pixels are written as, computed from the definitions alone. The bytes are those that CharLS 2.4.1
-- writes, and those of a coder in C++ where CharLS has no such picture.
use Rattle.std.proofs.Common.{◌≡◌, [], ◌∷◌, refl}
use Rattle.jls_values.specs.Params.{CodingParameters, least_from}
use Rattle.jls_bits.specs.Bits.{bits, value_of_bits, width_after}
use Rattle.jls_bits.specs.Golomb.{golomb}
use Rattle.jls_bits.specs.Pad.{pad_after}
use Rattle.jls_context.specs.Mode.{quantized_gradient, is_negative, context}
use Rattle.jls_context.specs.Errors.{modulo_reduced}
use Rattle.jls_context.specs.Prediction.{corrected_prediction}
use Rattle.jls_context.specs.Regular.{golomb_k, updated}
use Rattle.jls_context.specs.Interruption.{run_updated}
use Rattle.jls_interval.specs.Runs.{block_columns, full_blocks, blocks}
use Rattle.jls_pixel.specs.Events.{events_from, events_after}
use Rattle.jls_pixel.specs.Cells.{cell_before, run_cell_before, run_index_before}
use Rattle.jls_pixel.specs.Code.{sample_bits, bits_of_samples, event_bits, bits_of_events, pixel_code}
use Rattle.jls_pixel.specs.Reads.{packed_pixels}

-- the defaults at 8 and 16 bits
abbrev bits_8 : CodingParameters
bits_8 = record { precision = 8; maxval = 255; t1 = 3; t2 = 7; t3 = 21; reset = 64 }

abbrev bits_16 : CodingParameters
bits_16 =
    record { precision = 16; maxval = 65535; t1 = 18; t2 = 67; t3 = 276; reset = 64 }

record WorkedExamples : Type 0 where
  -- pixels in regular mode, with escapes
  four_pixels : packed_pixels bits_8 2 3
      (((10 ∷ 20 ∷ 30 ∷ []) ∷ (11 ∷ 19 ∷ 33 ∷ []) ∷ []) ∷ ((200 ∷ 0 ∷ 255 ∷ []) ∷ (10 ∷ 20 ∷ 31 ∷ []) ∷ []) ∷ [])
      ≡ 0x02 ∷ 0x02 ∷ 0x07 ∷ 0x2E ∷ 0x50 ∷ 0x00 ∷ 0x00 ∷ 0x18 ∷ 0x20 ∷ 0x02 ∷ 0x00 ∷ 0x00 ∷ 0xA0 ∷ 0x00 ∷ 0x00 ∷ 0x30 ∷ 0x60 ∷ 0x0E ∷ 0x00
      ∷ 0x01 ∷ 0x00 ∷ []
  -- runs that are interrupted and runs to the end: the last one is interrupted under pixels other than its own value
  runs_of_pixels : packed_pixels bits_8 4 3
      (((0 ∷ 0 ∷ 0 ∷ []) ∷ (0 ∷ 0 ∷ 0 ∷ []) ∷ (5 ∷ 0 ∷ 9 ∷ []) ∷ (5 ∷ 0 ∷ 9 ∷ []) ∷ [])
      ∷ ((0 ∷ 0 ∷ 0 ∷ []) ∷ (0 ∷ 0 ∷ 0 ∷ []) ∷ (5 ∷ 0 ∷ 9 ∷ []) ∷ (5 ∷ 0 ∷ 9 ∷ []) ∷ [])
      ∷ ((0 ∷ 0 ∷ 0 ∷ []) ∷ (0 ∷ 0 ∷ 0 ∷ []) ∷ (0 ∷ 0 ∷ 0 ∷ []) ∷ (5 ∷ 1 ∷ 9 ∷ []) ∷ []) ∷ [])
      ≡ 0xC6 ∷ 0x80 ∷ 0xD2 ∷ 0x4D ∷ 0x12 ∷ 0x72 ∷ 0x68 ∷ []
  -- one RUNindex: a run of thirteen pixels of three components is nine ones, as one of thirteen samples
  thirteen_pixels : packed_pixels bits_8 13 3
      (((0 ∷ 0 ∷ 0 ∷ []) ∷ (0 ∷ 0 ∷ 0 ∷ []) ∷ (0 ∷ 0 ∷ 0 ∷ []) ∷ (0 ∷ 0 ∷ 0 ∷ []) ∷ (0 ∷ 0 ∷ 0 ∷ []) ∷ (0 ∷ 0 ∷ 0 ∷ [])
      ∷ (0 ∷ 0 ∷ 0 ∷ []) ∷ (0 ∷ 0 ∷ 0 ∷ []) ∷ (0 ∷ 0 ∷ 0 ∷ []) ∷ (0 ∷ 0 ∷ 0 ∷ []) ∷ (0 ∷ 0 ∷ 0 ∷ []) ∷ (0 ∷ 0 ∷ 0 ∷ [])
      ∷ (0 ∷ 0 ∷ 0 ∷ []) ∷ []) ∷ []) ≡ 0xFF ∷ 0x40 ∷ []
  -- RItype is 0 also where Ra and Rb are equal, and then an error can be 0: here the first and the last component's
  interrupted_at_once : packed_pixels bits_8 1 3 (((0 ∷ 7 ∷ 0 ∷ []) ∷ []) ∷ []) ≡ 0x40 ∷ 0x14 ∷ []
  -- J is 1 for all three samples, and the escape has 21 zeros
  interrupted_after_four_blocks : packed_pixels bits_8 5 3
      (((0 ∷ 0 ∷ 0 ∷ []) ∷ (0 ∷ 0 ∷ 0 ∷ []) ∷ (0 ∷ 0 ∷ 0 ∷ []) ∷ (0 ∷ 0 ∷ 0 ∷ []) ∷ (90 ∷ 0 ∷ 1 ∷ []) ∷ []) ∷ [])
      ≡ 0xF0 ∷ 0x00 ∷ 0x00 ∷ 0x1B ∷ 0x38 ∷ 0x11 ∷ 0x00 ∷ []
  -- the gradients of the first component are 0 in each row, and the others' are not: its samples have context 0
  context_0 : packed_pixels bits_8 1 3
      (((0 ∷ 0 ∷ 3 ∷ []) ∷ []) ∷ ((0 ∷ 1 ∷ 3 ∷ []) ∷ []) ∷ ((0 ∷ 1 ∷ 4 ∷ []) ∷ []) ∷ ((0 ∷ 1 ∷ 4 ∷ []) ∷ []) ∷ [])
      ≡ 0x48 ∷ 0x51 ∷ 0x4E ∷ 0x5F ∷ 0x00 ∷ []
  four_components : packed_pixels bits_8 3 4
      (((0 ∷ 0 ∷ 0 ∷ 0 ∷ []) ∷ (1 ∷ 2 ∷ 3 ∷ 4 ∷ []) ∷ (1 ∷ 2 ∷ 3 ∷ 4 ∷ []) ∷ [])
      ∷ ((9 ∷ 9 ∷ 9 ∷ 9 ∷ []) ∷ (1 ∷ 2 ∷ 3 ∷ 4 ∷ []) ∷ (1 ∷ 2 ∷ 9 ∷ 5 ∷ []) ∷ []) ∷ [])
      ≡ 0xB2 ∷ 0x31 ∷ 0x25 ∷ 0x20 ∷ 0xC4 ∷ 0x06 ∷ 0x20 ∷ 0x75 ∷ 0x9F ∷ 0xD2 ∷ 0x01 ∷ 0x60 ∷ []
  -- a run is interrupted by the last component alone. CharLS compares three of four components, and loses the 5
  interrupted_by_the_fourth : packed_pixels bits_8 3 4
      (((0 ∷ 0 ∷ 0 ∷ 0 ∷ []) ∷ (1 ∷ 2 ∷ 3 ∷ 4 ∷ []) ∷ (1 ∷ 2 ∷ 3 ∷ 4 ∷ []) ∷ [])
      ∷ ((9 ∷ 9 ∷ 9 ∷ 9 ∷ []) ∷ (1 ∷ 2 ∷ 3 ∷ 4 ∷ []) ∷ (1 ∷ 2 ∷ 3 ∷ 5 ∷ []) ∷ []) ∷ [])
      ≡ 0xB2 ∷ 0x31 ∷ 0x25 ∷ 0x20 ∷ 0xC4 ∷ 0x06 ∷ 0x20 ∷ 0x75 ∷ 0x9F ∷ 0xD2 ∷ 0x48 ∷ []
  -- two components, which CharLS has not
  two_components : packed_pixels bits_8 3 2
      (((0 ∷ 0 ∷ []) ∷ (0 ∷ 0 ∷ []) ∷ (3 ∷ 0 ∷ []) ∷ []) ∷ ((0 ∷ 0 ∷ []) ∷ (0 ∷ 7 ∷ []) ∷ (3 ∷ 0 ∷ []) ∷ []) ∷ [])
      ≡ 0xCD ∷ 0x28 ∷ 0x02 ∷ 0x83 ∷ 0x00 ∷ []
  -- the longest samples
  at_16_bits : packed_pixels bits_16 1 3 (((65535 ∷ 0 ∷ 1 ∷ []) ∷ []) ∷ ((65535 ∷ 0 ∷ 1 ∷ []) ∷ []) ∷ [])
      ≡ 0x40 ∷ 0x18 ∷ 0x01 ∷ 0x01 ∷ 0x40 ∷ 0x08 ∷ 0x01 ∷ 0x00 ∷ 0x00 ∷ []

worked_examples : WorkedExamples
unfolding least_from bits value_of_bits width_after golomb pad_after quantized_gradient is_negative context modulo_reduced
    corrected_prediction golomb_k updated run_updated events_from events_after cell_before run_cell_before block_columns full_blocks blocks
    run_index_before sample_bits bits_of_samples event_bits bits_of_events pixel_code
worked_examples = record {
  four_pixels = refl;
  runs_of_pixels = refl;
  thirteen_pixels = refl;
  interrupted_at_once = refl;
  interrupted_after_four_blocks = refl;
  context_0 = refl;
  four_components = refl;
  interrupted_by_the_fourth = refl;
  two_components = refl;
  at_16_bits = refl;
}
