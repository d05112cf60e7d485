-- Worked examples of heads, computed from the definitions alone: two rows of one pixel of three components, 0 7 0, cut off. The bytes are
-- those of a coder in C++.
use Rattle.std.proofs.Common.{◌≡◌, ℕ, Bool, true, false, List, [], ◌∷◌, ◌++◌, replicate, refl, lit<, lit≤, inl}
use Rattle.jls_values.specs.Params.{CodingParameters, least_from}
use Rattle.jls_bits.specs.Bits.{bits, value_of_bits, width_after, bits_read_after, ends_data, is_whole_after, bits_read}
use Rattle.jls_bits.specs.Golomb.{golomb}
use Rattle.jls_context.specs.declared.mode.Neighbours.{Neighbours}
use Rattle.jls_context.specs.Mode.{quantized_gradient, is_negative, context}
use Rattle.jls_context.specs.Errors.{modulo_reduced}
use Rattle.jls_context.specs.Prediction.{corrected_prediction}
use Rattle.jls_context.specs.Regular.{golomb_k, updated}
use Rattle.jls_context.specs.Interruption.{run_updated}
use Rattle.jls_interval.specs.Runs.{block_columns, full_blocks, blocks}
use Rattle.jls_interval.specs.Stepwise.{bits_of_steps}
use Rattle.jls_pixel.specs.Pixels.{pixel_shape}
use Rattle.jls_pixel.specs.Events.{Event, regular_pixel, run_to_end, interrupted_run, events_from, events_after}
use Rattle.jls_pixel.specs.Cells.{cell_before, run_cell_before, run_index_before}
use Rattle.jls_pixel.specs.Code.{sample_bits, bits_of_samples, event_bits, bits_of_events, pixel_code}
use Rattle.jls_pixel.specs.Reads.{Reads}
use Rattle.jls_pixel.specs.Growth.{Position, IsNext, pixel_steps, start}
use Rattle.jls_pixel.specs.Heads.{IsCutEvent, IsHeadOfPiece}
use Rattle.jls_pixel.proofs.HeadRows.{head_is}

abbrev bits_8 : CodingParameters
bits_8 = record { precision = 8; maxval = 255; t1 = 3; t2 = 7; t3 = 21; reset = 64 }

abbrev Head : List ℕ → List (List (List ℕ)) → Type 0
Head piece rows = IsHeadOfPiece (pixel_shape bits_8 1 3 2) piece rows

abbrev Cut : List ℕ → Type 0
Cut piece = IsCutEvent (pixel_shape bits_8 1 3 2) (bits_read piece)

abbrev zeros : Neighbours
zeros = record { ra = 0; rb = 0; rc = 0; rd = 0 }

-- the first pixel interrupts a run of no pixel
abbrev first_event : Event
first_event = interrupted_run 0 (zeros ∷ zeros ∷ zeros ∷ []) (0 ∷ 7 ∷ 0 ∷ [])

abbrev first_row : List (List ℕ)
first_row = (0 ∷ 7 ∷ 0 ∷ []) ∷ []

abbrev after_first : Position
after_first = record { rows = first_row ∷ []; row = []; earlier = first_event ∷ [] }

-- the neighbours of the second
abbrev nears : List Neighbours
nears = zeros ∷ record { ra = 7; rb = 7; rc = 0; rd = 7 } ∷ zeros ∷ []

interrupts : (let own : List ℕ = 0 ∷ 7 ∷ 0 ∷ [] in own) ≡ 0 ∷ 0 ∷ 0 ∷ [] → ⊥
interrupts q = cc

-- bits that cut the second event
abbrev cut_second : (piece : List ℕ) (pixel : List ℕ) (begun : List Bool) (missing : Bool) (more : List Bool)
    → IsNext bits_8 1 3 2 after_first (regular_pixel nears pixel)
    → bits_read piece ≡ bits_of_steps (pixel_steps bits_8 1 3 2) start (first_event ∷ []) ++ begun
    → event_bits bits_8 (first_event ∷ []) (regular_pixel nears pixel) ≡ begun ++ missing ∷ more → Cut piece
cut_second piece pixel begun missing more a b e = record {
  whole = first_event ∷ [];
  position = after_first;
  leads = (
    (lit< tt, (refl, lit< tt, refl, (refl, (lit≤ tt, (lit≤ tt, (lit≤ tt, tt)))), interrupts)),
    refl,
  );
  cut = regular_pixel nears pixel;
  is_next = a;
  begun = begun;
  given_is = b;
  missing = missing;
  more_missing = more;
  bits_are = e;
}

record Heads : Type 0 where
  -- no bit: nothing stands
  nothing : Head [] []
  -- the first row ends with its second byte, and no bit of the second row is there
  two_bytes : Head (0x40 ∷ 0x14 ∷ []) (first_row ∷ [])
  -- the second row is cut among the zeros of its first sample
  three_bytes : Head (0x40 ∷ 0x14 ∷ 0x00 ∷ []) (first_row ∷ [])
  -- the whole
  whole : Reads (pixel_shape bits_8 1 3 2) (0x40 ∷ 0x14 ∷ 0x92 ∷ []) (first_row ∷ first_row ∷ [])

heads : Heads
unfolding least_from bits value_of_bits width_after golomb quantized_gradient is_negative context modulo_reduced corrected_prediction
    golomb_k updated run_updated events_from events_after cell_before run_cell_before block_columns full_blocks blocks run_index_before
    sample_bits bits_of_samples event_bits bits_of_events pixel_code bits_read_after is_whole_after ends_data
heads = record {
  nothing = inl (
    refl,
    head_is bits_8 1 3 (lit< tt) 2 []
        (record {
          whole = [];
          position = start;
          leads = refl;
          cut = run_to_end 1;
          is_next = (lit< tt, (refl, refl));
          begun = [];
          given_is = refl;
          missing = true;
          more_missing = [];
          bits_are = refl;
        }),
  );
  two_bytes = inl (
    refl,
    head_is bits_8 1 3 (lit< tt) 2 (bits_read (0x40 ∷ 0x14 ∷ []))
        (cut_second (0x40 ∷ 0x14 ∷ []) (0 ∷ 7 ∷ 0 ∷ []) [] true
        (false ∷ false ∷ true ∷ false ∷ false ∷ true ∷ false ∷ [])
        (lit< tt, (refl, refl, (refl, (lit≤ tt, (lit≤ tt, (lit≤ tt, tt)))))) refl refl),
  );
  three_bytes = inl (
    refl,
    head_is bits_8 1 3 (lit< tt) 2 (bits_read (0x40 ∷ 0x14 ∷ 0x00 ∷ []))
        (cut_second (0x40 ∷ 0x14 ∷ 0x00 ∷ []) (34 ∷ 7 ∷ 0 ∷ []) (replicate 8 false) false
        (replicate 8 false ++ true ∷ false ∷ false ∷ true ∷ false ∷ false ∷ true ∷ false ∷ false ∷ false ∷ false ∷ true ∷ [])
        (lit< tt, (refl, refl, (refl, (lit≤ tt, (lit≤ tt, (lit≤ tt, tt)))))) refl refl),
  );
  whole = record {
    unread = [];
    begins = record {
      are_bytes = (lit< tt, (lit< tt, (lit< tt, tt)));
      are_rows =
          record {
            count_is = refl;
            each = (
              (refl, ((refl, (lit≤ tt, (lit≤ tt, (lit≤ tt, tt)))), tt)),
              ((refl, ((refl, (lit≤ tt, (lit≤ tt, (lit≤ tt, tt)))), tt)), tt),
            );
          };
      data_bits = record { whole = refl; read = refl };
    };
    at_most_seven = lit≤ tt;
  };
}
