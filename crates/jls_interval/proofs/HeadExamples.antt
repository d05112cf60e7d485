-- Worked examples of heads, computed from the definitions alone.
use Rattle.std.proofs.Common.{◌≡◌, ℕ, Bool, true, false, List, [], ◌∷◌, ◌++◌, length, replicate, refl, sym, ap, ◌∙◌, subst, lit<, lit≤}
use Rattle.std.proofs.Common.{append_assoc, inl, inr}
use Rattle.std.proofs.lemmas.List.{append-nil}
use Rattle.jls_values.specs.Params.{CodingParameters, AreCodingParameters, least_from}
use Rattle.jls_bits.specs.Bits.{bits, value_of_bits, width_after, bits_read_after, ends_data, is_whole_after, bits_read}
use Rattle.jls_bits.specs.Golomb.{golomb}
use Rattle.jls_bits.specs.CodeState.{RefusesCode}
use Rattle.jls_bits.proofs.CodeSteps.{escape_too_small, zero_too_many}
use Rattle.jls_context.specs.declared.mode.Neighbours.{Neighbours}
use Rattle.jls_context.specs.Mode.{quantized_gradient, is_negative, context}
use Rattle.jls_context.specs.Errors.{modulo_reduced}
use Rattle.jls_context.specs.Prediction.{corrected_prediction}
use Rattle.jls_context.specs.Regular.{golomb_k, updated}
use Rattle.jls_context.specs.Interruption.{run_updated}
use Rattle.jls_interval.specs.Lines.{interval_shape}
use Rattle.jls_interval.specs.Events.{Event, regular, run_to_end, interrupted_run, events_from, events_after, events}
use Rattle.jls_interval.specs.Cells.{cell_before, run_cell_before}
use Rattle.jls_interval.specs.Runs.{block_columns, full_blocks, blocks, run_index_before}
use Rattle.jls_interval.specs.Code.{event_bits, bits_of_events, code}
use Rattle.jls_interval.specs.Reads.{Reads}
use Rattle.jls_interval.specs.Stepwise.{bits_of_steps}
use Rattle.jls_interval.specs.Growth.{Position, IsNext, interval_steps, start, finish}
use Rattle.jls_interval.specs.Laws.{IsCutCode, IsCutEvent}
use Rattle.jls_interval.specs.Heads.{IsHeadOfPiece}
use Rattle.jls_interval.proofs.StepwiseCodes.{refused}
use Rattle.jls_interval.proofs.EventsApart.{events_apart}
use Rattle.jls_interval.proofs.CodesApart.{kept, code_is, finished}
use Rattle.jls_interval.proofs.LinesGrow.{lines_grow}
use Rattle.jls_interval.proofs.SamplesRead.{regular_has}
use Rattle.jls_interval.proofs.HeadLines.{head_is}

abbrev bits_8 : CodingParameters
bits_8 = record { precision = 8; maxval = 255; t1 = 3; t2 = 7; t3 = 21; reset = 64 }

are_parameters : AreCodingParameters bits_8
are_parameters = record {
  precision_at_least = lit≤ tt;
  precision_at_most = lit≤ tt;
  maxval_at_least = lit≤ tt;
  maxval_below = lit< tt;
  t1_at_least = lit≤ tt;
  t2_at_least = lit≤ tt;
  t3_at_least = lit≤ tt;
  t3_at_most = lit≤ tt;
  reset_at_least = lit≤ tt;
  reset_at_most = lit≤ tt;
}

-- The codes of the first lines of a picture of four -------------------------------------------------

abbrev lines_of_four : List (List ℕ)
lines_of_four =
    (0 ∷ 0 ∷ 90 ∷ 74 ∷ []) ∷ (68 ∷ 50 ∷ 43 ∷ 205 ∷ []) ∷ (64 ∷ 145 ∷ 145 ∷ 145 ∷ []) ∷ (100 ∷ 145 ∷ 145 ∷ 145 ∷ []) ∷ []

record FirstLines : Type 0 where
  one : length (code bits_8 4 1 ((0 ∷ 0 ∷ 90 ∷ 74 ∷ []) ∷ [])) ≡ 45
  two : length (code bits_8 4 1 ((0 ∷ 0 ∷ 90 ∷ 74 ∷ []) ∷ (68 ∷ 50 ∷ 43 ∷ 205 ∷ []) ∷ [])) ≡ 130
  three : length (code bits_8 4 1 ((0 ∷ 0 ∷ 90 ∷ 74 ∷ []) ∷ (68 ∷ 50 ∷ 43 ∷ 205 ∷ []) ∷ (64 ∷ 145 ∷ 145 ∷ 145 ∷ []) ∷ [])) ≡ 206
  all : length (code bits_8 4 1 lines_of_four) ≡ 235

first_lines : FirstLines
unfolding least_from bits golomb quantized_gradient is_negative context modulo_reduced corrected_prediction golomb_k updated run_updated
    events_from events_after cell_before run_cell_before block_columns full_blocks blocks run_index_before event_bits bits_of_events code
first_lines = record { one = refl; two = refl; three = refl; all = refl }

-- Two lines of one column, 1 and 34, cut at many places ---------------------------------------------

abbrev Head : List ℕ → List (List ℕ) → Type 0
Head piece lines = IsHeadOfPiece (interval_shape bits_8 1 1 2) piece lines

abbrev Cut : List ℕ → Type 0
Cut piece = IsCutEvent (interval_shape bits_8 1 1 2) (bits_read piece)

-- the sample 1 interrupts a run of no column
abbrev first_event : Event
first_event = interrupted_run 0 0 (record { ra = 0; rb = 0; rc = 0; rd = 0 }) 1

abbrev after_first : Position
after_first = record { lines = (1 ∷ []) ∷ []; line = []; earlier = first_event ∷ [] }

-- the neighbours of the second
abbrev near : Neighbours
near = record { ra = 1; rb = 1; rc = 0; rd = 1 }

-- bits that cut the second event
abbrev cut_second : (piece : List ℕ) (sample : ℕ) (begun : List Bool) (missing : Bool) (more : List Bool)
    → IsNext bits_8 1 1 2 after_first (regular near sample)
    → bits_read piece ≡ bits_of_steps (interval_steps bits_8 1 1 2) start (first_event ∷ []) ++ begun
    → event_bits bits_8 (first_event ∷ []) (regular near sample) ≡ begun ++ missing ∷ more → Cut piece
cut_second piece sample begun missing more a b e = record {
  whole = first_event ∷ [];
  position = after_first;
  leads = ((lit< tt, (refl, refl, lit< tt, refl, lit≤ tt, λ (q : 1 ≡ 0). cc)), refl);
  cut = regular near sample;
  is_next = a;
  begun = begun;
  given_is = b;
  missing = missing;
  more_missing = more;
  bits_are = e;
}

-- a code that is refused after the first event
none_after_first : (given begun : List Bool) → given ≡ bits_of_steps (interval_steps bits_8 1 1 2) start (first_event ∷ []) ++ begun
    → RefusesCode 2 32 8 begun
    → IsCutCode (interval_shape bits_8 1 1 2) given → ⊥
unfolding least_from quantized_gradient is_negative context modulo_reduced corrected_prediction golomb_k updated cell_before event_bits
none_after_first given begun e no_code cut =
    let m = interval_steps bits_8 1 1 2 in let left = begun ++ cut.missing ∷ cut.more_missing in
    let second : IsNext bits_8 1 1 2 after_first (regular near 34) = (lit< tt, (refl, refl, lit≤ tt)) in
    let first = bits_of_steps m start (first_event ∷ []) in
    let flat : first ++ left ≡ bits_of_steps m start (events 1 1 cut.lines) ++ [] =
    sym (append_assoc first begun (cut.missing ∷ cut.more_missing)) ∙ ap (λ v. v ++ cut.missing ∷ cut.more_missing) (sym e) ∙ cut.code_is
    ∙ code_is bits_8 1 1 2 cut.lines ∙ sym (append-nil (bits_of_steps m start (events 1 1 cut.lines))) in
    refused m (events_apart bits_8 1 1 2 are_parameters) (kept bits_8 1 1 2) start after_first (finish 1 1 cut.lines) (first_event ∷ [])
    (events 1 1 cut.lines) left [] (tt, tt) ((lit< tt, (refl, refl, lit< tt, refl, lit≤ tt, λ (q : 1 ≡ 0). cc)), refl)
    (lines_grow bits_8 1 1 2 (lit< tt) cut.lines cut.are_lines) (finished bits_8 1 1 2 cut.lines cut.are_lines.count_is) (regular near 34)
    second stuck flat
  where
    stuck : (x : Event) (rest : List Bool) → IsNext bits_8 1 1 2 after_first x
        → begun ++ cut.missing ∷ cut.more_missing ≡ event_bits bits_8 (first_event ∷ []) x ++ rest → ⊥
    stuck (regular n s) rest a q =
        let q' : begun ++ cut.missing ∷ cut.more_missing ≡ event_bits bits_8 (first_event ∷ []) (regular near s) ++ rest =
        subst (λ v. begun ++ cut.missing ∷ cut.more_missing ≡ event_bits bits_8 (first_event ∷ []) (regular v s) ++ rest) a.1.1 q in
        no_code _ (cut.missing ∷ cut.more_missing) rest
        (regular_has bits_8 are_parameters (cell_before bits_8 (first_event ∷ []) (context bits_8 near)) near s a.1.2) q'
    stuck (run_to_end k count) rest a q = (let mode : false ≡ true = a.1.0 in cc)
    stuck (interrupted_run k count n s) rest a q = (let mode : false ≡ true = a.1.0 in cc)

-- more bits after
refused_on : (begun more : List Bool) → RefusesCode 2 32 8 begun → RefusesCode 2 32 8 (begun ++ more)
refused_on begun more h = λ m on rest has e. h m (more ++ on) rest has (sym (append_assoc begun more on) ∙ e)

record Heads : Type 0 where
  -- no bit: nothing stands
  nothing : Head [] []
  -- line 1 is cut among the zeros of its code
  one_byte : Head (0x50 ∷ []) ((1 ∷ []) ∷ [])
  two_bytes : Head (0x50 ∷ 0x00 ∷ []) ((1 ∷ []) ∷ [])
  -- it is cut in an escape, which can be a number from 92 to 96
  in_an_escape : Head (0x50 ∷ 0x00 ∷ 0x00 ∷ 0x15 ∷ []) ((1 ∷ []) ∷ [])
  -- the escape could only be a number of at most 16, which has a short code
  in_no_escape : Head (0x50 ∷ 0x00 ∷ 0x00 ∷ 0x10 ∷ []) []
  -- no code begins with so many zeros
  too_many_zeros : Head (0x50 ∷ 0x00 ∷ 0x00 ∷ 0x00 ∷ 0x00 ∷ []) []
  -- the whole
  whole : Reads (interval_shape bits_8 1 1 2) (0x50 ∷ 0x00 ∷ 0x0C ∷ []) ((1 ∷ []) ∷ (34 ∷ []) ∷ [])

heads : Heads
unfolding least_from bits value_of_bits width_after golomb quantized_gradient is_negative context modulo_reduced corrected_prediction
    golomb_k updated run_updated events_from events_after cell_before run_cell_before block_columns full_blocks blocks run_index_before
    event_bits bits_of_events code bits_read_after is_whole_after ends_data
heads = record {
  nothing = inl (
    refl,
    head_is bits_8 1 1 (lit< tt) 2 []
        (record {
          whole = [];
          position = start;
          leads = refl;
          cut = run_to_end 0 1;
          is_next = (lit< tt, (refl, refl, refl));
          begun = [];
          given_is = refl;
          missing = true;
          more_missing = [];
          bits_are = refl;
        }),
  );
  one_byte = inl (
    refl,
    head_is bits_8 1 1 (lit< tt) 2 (bits_read (0x50 ∷ []))
        (cut_second (0x50 ∷ []) 34 (replicate 4 false) false (replicate 11 false ++ true ∷ true ∷ false ∷ [])
        (lit< tt, (refl, refl, lit≤ tt))
        refl refl),
  );
  two_bytes = inl (
    refl,
    head_is bits_8 1 1 (lit< tt) 2 (bits_read (0x50 ∷ 0x00 ∷ []))
        (cut_second (0x50 ∷ 0x00 ∷ []) 34 (replicate 12 false) false (replicate 3 false ++ true ∷ true ∷ false ∷ [])
        (lit< tt, (refl, refl, lit≤ tt)) refl refl),
  );
  in_an_escape = inl (
    refl,
    head_is bits_8 1 1 (lit< tt) 2 (bits_read (0x50 ∷ 0x00 ∷ 0x00 ∷ 0x15 ∷ []))
        (cut_second (0x50 ∷ 0x00 ∷ 0x00 ∷ 0x15 ∷ []) 47 (replicate 23 false ++ true ∷ false ∷ true ∷ false ∷ true ∷ []) true
        (false ∷ true ∷ true ∷ []) (lit< tt, (refl, refl, lit≤ tt)) refl refl),
  );
  in_no_escape = inl (
    refl,
    inr (
      none_after_first (bits_read (0x50 ∷ 0x00 ∷ 0x00 ∷ 0x10 ∷ []))
          ((replicate 23 false ++ true ∷ bits 3 0) ++ false ∷ []) refl
          (escape_too_small 2 32 8 (lit≤ tt) 3 0 false (lit< tt) (lit≤ tt) (lit< tt)),
      refl,
    ),
  );
  too_many_zeros = inl (
    refl,
    inr (
      none_after_first (bits_read (0x50 ∷ 0x00 ∷ 0x00 ∷ 0x00 ∷ 0x00 ∷ [])) ((replicate 23 false ++ false ∷ []) ++ replicate 12 false) refl
          (refused_on (replicate 23 false ++ false ∷ []) (replicate 12 false) (zero_too_many 2 32 8 (lit≤ tt) 23 false refl refl)),
      refl,
    ),
  );
  whole = record {
    unread = false ∷ [];
    begins = record {
      are_bytes = (lit< tt, (lit< tt, (lit< tt, tt)));
      are_lines =
          record { count_is = refl; each = ((refl, (lit≤ tt, tt)), ((refl, (lit≤ tt, tt)), tt)) };
      data_bits =
          record { whole = refl; read = refl };
    };
    at_most_seven = lit≤ tt;
  };
}
