-- Fronts, computed from the definitions alone.
use Rattle.std.proofs.Common.{true, false, [], ◌∷◌, ℕ, List, refl, lit<}
use Rattle.jls_values.specs.Params.{CodingParameters, least_from}
use Rattle.jls_bits.specs.Bits.{bits, value_of_bits, width_after, bits_read_after, ends_data, is_whole_after}
use Rattle.jls_bits.specs.Golomb.{golomb}
use Rattle.jls_bits.specs.Front.{IsFront, EndsAt}
use Rattle.jls_context.specs.Mode.{quantized_gradient, is_negative, context}
use Rattle.jls_context.specs.Errors.{modulo_reduced}
use Rattle.jls_context.specs.Prediction.{corrected_prediction}
use Rattle.jls_context.specs.Regular.{golomb_k, updated}
use Rattle.jls_context.specs.Interruption.{run_updated}
use Rattle.jls_interval.specs.Events.{events_from, events_after}
use Rattle.jls_interval.specs.Cells.{cell_before, run_cell_before}
use Rattle.jls_interval.specs.Runs.{block_columns, full_blocks, blocks, run_index_before}
use Rattle.jls_interval.specs.Code.{event_bits, bits_of_events, code}

abbrev bits_8 : CodingParameters
bits_8 = record { precision = 8; maxval = 255; t1 = 3; t2 = 7; t3 = 21; reset = 64 }

abbrev line : List ℕ
line = 0 ∷ 0 ∷ 5 ∷ []

record FrontExamples : Type 0 where
  -- two lines, which are written as 0xC5 0xD0: the first fills a byte, and six bits of the second are over
  front_of_two : IsFront (code bits_8 3 1 (line ∷ line ∷ [])) (0xC5 ∷ [])
  first_ends : EndsAt (code bits_8 3 1 (line ∷ [])) (record { bytes = 1; bits = 0 })
  second_ends : EndsAt (code bits_8 3 1 (line ∷ line ∷ [])) (record { bytes = 1; bits = 6 })
  -- eight ones fill 0xFF, and none is over: the stuffed bit and what follows it depend on the next line
  front_at_a_stuffed_bit : IsFront (code bits_8 12 1 ((0 ∷ 0 ∷ 0 ∷ 0 ∷ 0 ∷ 0 ∷ 0 ∷ 0 ∷ 0 ∷ 0 ∷ 0 ∷ 0 ∷ []) ∷ [])) (0xFF ∷ [])
  -- of no line
  front_of_none : IsFront (code bits_8 3 1 []) []

front_examples : FrontExamples
unfolding least_from bits value_of_bits width_after golomb quantized_gradient is_negative context modulo_reduced corrected_prediction
    golomb_k updated run_updated events_from events_after cell_before run_cell_before block_columns full_blocks blocks run_index_before
    event_bits bits_of_events code bits_read_after is_whole_after ends_data
front_examples =
    let two : IsFront (code bits_8 3 1 (line ∷ line ∷ [])) (0xC5 ∷ []) = record {
      filled = record { are_bytes = (lit< tt, tt); whole = refl };
      over = true ∷ true ∷ false ∷ true ∷ false ∷ false ∷ [];
      given_is = refl;
      few = lit< tt;
    } in
    record {
      front_of_two = two;
      first_ends = record {
        bytes = 0xC5 ∷ [];
        front = record { filled = record { are_bytes = (lit< tt, tt); whole = refl }; over = []; given_is = refl; few = lit< tt };
        bytes_are = refl;
        bits_are = refl;
      };
      second_ends = record { bytes = 0xC5 ∷ []; front = two; bytes_are = refl; bits_are = refl };
      front_at_a_stuffed_bit = record {
        filled = record { are_bytes = (lit< tt, tt); whole = refl };
        over = [];
        given_is = refl;
        few = lit< tt;
      };
      front_of_none = record { filled = record { are_bytes = tt; whole = refl }; over = []; given_is = refl; few = lit< tt };
    }
