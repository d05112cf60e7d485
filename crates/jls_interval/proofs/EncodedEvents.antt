-- Events that were written, one after another: the variables and RUNindex that they leave, and their bits.
use Rattle.std.proofs.Common.{◌≡◌, ℕ, ◌+◌, ◌-◌, ◌≤◌, Bool, true, false, not, List, [], ◌∷◌, ◌++◌, length, get_or, set, ◌<◌, refl, sym, ap}
use Rattle.std.proofs.Common.{◌∙◌, subst, arith, append_assoc}
use Rattle.std.specs.Prelude.{ℤ, pos, neg_ℤ, ◌-ℤ◌, ◌<ℤ◌}
use Rattle.std.proofs.lemmas.Int.{ints}
use Rattle.std.proofs.lemmas.List.{append-nil}
use Rattle.jls_values.specs.Params.{CodingParameters, qbpp, limit}
use Rattle.jls_bits.specs.Golomb.{golomb}
use Rattle.jls_context.specs.Mode.{IsRegularMode, with_sign, context}
use Rattle.jls_context.specs.Prediction.{edge_detecting_predictor, corrected_prediction}
use Rattle.jls_context.specs.Errors.{modulo_reduced}
use Rattle.jls_context.specs.Regular.{regular_k, regular_mapped, updated}
use Rattle.jls_context.specs.Interruption.{run_k, interruption_mapped, run_updated}
use Rattle.jls_context.specs.Variables.{Variables, cell_at, run_cell_at}
use Rattle.jls_context.specs.declared.mode.Neighbours.{Neighbours}
use Rattle.jls_context.specs.declared.regular.Cell.{Cell}
use Rattle.jls_context.specs.declared.interruption.RunCell.{RunCell}
use Rattle.jls_interval.specs.Events.{Event, regular, run_to_end, interrupted_run}
use Rattle.jls_interval.specs.Cells.{regular_error, cell_before, is_same, interruption_error, run_cell_before}
use Rattle.jls_interval.specs.Runs.{run_order, blocks, run_index_before, run_index_lowered}
use Rattle.jls_interval.specs.Code.{regular_bits, run_to_end_bits, interrupted_run_bits, interrupting_bits, event_bits, bits_of_events}
use Rattle.jls_interval.specs.After.{IsAfter}
use Rattle.jls_interval.specs.Encoding.{Written, Writes}
use Rattle.jls_interval.proofs.AfterEvents.{after_regular, after_end, after_interruption}
use Rattle.jls_interval.proofs.WrittenRuns.{interruption_then}

-- One list of events after another ----------------------------------------------------

-- the bits of some events with more are those of the events, and then those of the others after them
pub bits_append : (p : CodingParameters) (earlier xs ys : List Event)
    → bits_of_events p earlier (xs ++ ys) ≡ bits_of_events p earlier xs ++ bits_of_events p (earlier ++ xs) ys
unfolding bits_of_events
bits_append p earlier [] ys = ap (λ z. bits_of_events p z ys) (sym (append-nil earlier))
bits_append p earlier (x ∷ xs) ys =
    ap (λ z. event_bits p earlier x ++ z)
    (bits_append p (earlier ++ x ∷ []) xs ys
    ∙ ap (λ z. bits_of_events p (earlier ++ x ∷ []) xs ++ bits_of_events p z ys) (append_assoc earlier (x ∷ []) xs))
    ∙ sym (append_assoc (event_bits p earlier x) (bits_of_events p (earlier ++ x ∷ []) xs) (bits_of_events p (earlier ++ x ∷ xs) ys))

pub bits_none : (p : CodingParameters) (earlier : List Event) → bits_of_events p earlier [] ≡ []
unfolding bits_of_events
bits_none p earlier = refl

pub bits_one : (p : CodingParameters) (earlier : List Event) (e : Event) → bits_of_events p earlier (e ∷ []) ≡ event_bits p earlier e
unfolding bits_of_events
bits_one p earlier e = append-nil (event_bits p earlier e)

module _ (p : CodingParameters) where
  -- writing no event changes nothing
  pub writes_none : (old : Written) → Writes p old old []
  writes_none old = record {
    is_after = λ earlier h. subst (IsAfter p old.cells old.run_indices) (sym (append-nil earlier)) h;
    bits_are = λ earlier h. sym (append-nil old.written) ∙ ap (λ z. old.written ++ z) (sym (bits_none p earlier));
  }

  -- writing some events, and then others, is writing all of them
  pub writes_then : (a b c : Written) (xs ys : List Event) → Writes p a b xs → Writes p b c ys → Writes p a c (xs ++ ys)
  writes_then a b c xs ys f g = record {
    is_after = λ earlier h. subst (IsAfter p c.cells c.run_indices) (append_assoc earlier xs ys)
        (g.is_after (earlier ++ xs) (f.is_after earlier h));
    bits_are = λ earlier h. g.bits_are (earlier ++ xs) (f.is_after earlier h)
        ∙ ap (λ z. z ++ bits_of_events p (earlier ++ xs) ys) (f.bits_are earlier h)
        ∙ append_assoc a.written (bits_of_events p earlier xs) (bits_of_events p (earlier ++ xs) ys)
        ∙ ap (λ z. a.written ++ z) (sym (bits_append p earlier xs ys));
  }

pub written_same : (a a' : Variables) (b b' : List ℕ) (c c' : List Bool) → a ≡ a' → b ≡ b' → c ≡ c'
    → (let w : Written = record { cells = a; run_indices = b; written = c } in w) ≡ record { cells = a'; run_indices = b'; written = c' }
written_same a a' b b' c c' e f g = cc

-- A sample of regular mode -------------------------------------------------------------

-- the difference of two samples, with SIGN
pub difference_range : (negative : Bool) (s x most : ℕ) → s ≤ most → x ≤ most
    → (neg_ℤ (pos (most + 1)) <ℤ with_sign negative (pos s -ℤ pos x)) × (with_sign negative (pos s -ℤ pos x) <ℤ pos (most + 1))
difference_range true s x most a b = (omega (arith, ints), omega (arith, ints))
difference_range false s x most a b = (omega (arith, ints), omega (arith, ints))

golomb_same : (k k' g g' q q' m m' : ℕ) → k ≡ k' → g ≡ g' → q ≡ q' → m ≡ m' → golomb k g q m ≡ golomb k' g' q' m'
golomb_same k k' g g' q q' m m' a b c d = cc

event_regular : (p : CodingParameters) (earlier : List Event) (near : Neighbours) (sample : ℕ)
    → event_bits p earlier (regular near sample) ≡ regular_bits p (cell_before p earlier (context p near)) near sample
unfolding event_bits
event_regular p earlier near sample = refl

module _ (old new : Variables) (near : Neighbours) (cell : ℕ) (negative : Bool) (sample : ℕ)
    (mode : IsRegularMode old.parameters near cell negative) where
  abbrev scan : CodingParameters
  scan = old.parameters

  abbrev used : Cell
  used = cell_at old cell

  -- the error that is computed
  pub error_is : (predicted : ℕ) (difference error : ℤ)
      → predicted ≡ corrected_prediction scan negative (cell_at old cell).correction (edge_detecting_predictor near.ra near.rb near.rc)
      → difference ≡ with_sign negative (pos sample -ℤ pos predicted)
      → error ≡ modulo_reduced scan difference → error ≡ regular_error scan used near sample
  error_is predicted difference error a b c =
      c ∙ ap (modulo_reduced scan) b ∙ ap (λ z. modulo_reduced scan (with_sign negative (pos sample -ℤ pos z))) a
      ∙ ap (λ n. modulo_reduced scan
      (with_sign n (pos sample -ℤ pos
      (corrected_prediction scan n (cell_at old cell).correction (edge_detecting_predictor near.ra near.rb near.rc))))) mode.sign_is

  -- the code that is written
  pub regular_code_is : (error : ℤ) (k g q m : ℕ) → error ≡ regular_error scan used near sample → k ≡ regular_k used → g ≡ limit scan
      → q ≡ qbpp scan → m ≡ regular_mapped used error
      → golomb k g q m ≡ regular_bits scan used near sample
  regular_code_is error k g q m e a b c d =
      golomb_same k (regular_k used) g (limit scan) q (qbpp scan) m (regular_mapped used (regular_error scan used near sample)) a b c
      (d ∙ ap (regular_mapped used) e)

  -- writing a regular sample, and updating its cell alone, is writing this one event
  pub regular_writes : (error : ℤ) → error ≡ regular_error scan used near sample → new.parameters ≡ scan
      → cell_at new cell ≡ updated old.parameters.reset used error
      → ((other : ℕ) → (other ≡ cell → ⊥) → cell_at new other ≡ cell_at old other)
      → ((same : Bool) → run_cell_at new same ≡ run_cell_at old same)
      → (run_indices : List ℕ) (before after code : List Bool) → after ≡ before ++ code → code ≡ regular_bits scan used near sample
      → Writes scan (record { cells = old; run_indices = run_indices; written = before })
      (record { cells = new; run_indices = run_indices; written = after }) (regular near sample ∷ [])
  regular_writes error is parameters changed others run_cells run_indices before after code a b = record {
    is_after = λ earlier h. after_regular scan old run_indices earlier h near cell mode.context_is sample error new parameters is changed
        others run_cells;
    bits_are = λ earlier h. a ∙ ap (λ z. before ++ z)
        (b ∙ ap (λ (d : Cell). regular_bits scan d near sample) (h.regular_cells cell ∙ ap (cell_before scan earlier) mode.context_is)
        ∙ sym (event_regular scan earlier near sample) ∙ sym (bits_one scan earlier (regular near sample)));
  }

-- A run to the end ---------------------------------------------------------------------

event_to_end : (p : CodingParameters) (earlier : List Event) (component count : ℕ)
    → event_bits p earlier (run_to_end component count) ≡ run_to_end_bits (blocks (run_index_before earlier component) count)
unfolding event_bits
event_to_end p earlier component count = refl

-- writing a run to the end of its line is writing this one event
pub to_end_writes : (p : CodingParameters) (cells : Variables) (run_indices : List ℕ) (component index count : ℕ) (before after : List Bool)
    → component < length run_indices → after ≡ before ++ run_to_end_bits (blocks (get_or run_indices component 0) count)
    → index ≡ (blocks (get_or run_indices component 0) count).run_index
    → Writes p (record { cells = cells; run_indices = run_indices; written = before })
    (record { cells = cells; run_indices = set run_indices component index; written = after }) (run_to_end component count ∷ [])
to_end_writes p cells run_indices component index count before after within a b = record {
  is_after = λ earlier h. after_end p cells run_indices earlier h component count within index b;
  bits_are = λ earlier h. a ∙ ap (λ z. before ++ z)
      (ap (λ z. run_to_end_bits (blocks z count)) (h.run_indices_are component) ∙ sym (event_to_end p earlier component count)
      ∙ sym (bits_one p earlier (run_to_end component count)));
}

-- An interrupted run -------------------------------------------------------------------

-- the bits of an interrupted run are those of its columns, and then those of its last sample
event_interrupted : (p : CodingParameters) (earlier : List Event) (component count : ℕ) (near : Neighbours) (sample : ℕ)
    → event_bits p earlier (interrupted_run component count near sample)
    ≡ interrupted_run_bits (blocks (run_index_before earlier component) count)
    (interrupting_bits p (run_cell_before p earlier (is_same near)) near
    (run_order (blocks (run_index_before earlier component) count).run_index) sample)
unfolding event_bits
event_interrupted p earlier component count near sample = refl

module _ (old new : Variables) (near : Neighbours) (sample : ℕ) where
  abbrev was : CodingParameters
  was = old.parameters

  abbrev same : Bool
  same = is_same near

  -- the code that is written
  pub interrupting_code_is : (error : ℤ) (k g q m order : ℕ) (same' : Bool) → same' ≡ same → error ≡ interruption_error was near sample
      → k ≡ run_k same' (run_cell_at old same') → g ≡ limit was - order - 1 → q ≡ qbpp was
      → m ≡ interruption_mapped same' (run_cell_at old same') error → golomb k g q m
      ≡ interrupting_bits was (run_cell_at old same) near order sample
  interrupting_code_is error k g q m order same' s e a b c d =
      golomb_same k (run_k same (run_cell_at old same)) g (limit was - order - 1) q (qbpp was) m
      (interruption_mapped same (run_cell_at old same) (interruption_error was near sample)) (a ∙ ap (λ z. run_k z (run_cell_at old z)) s)
      b c (d ∙ ap (interruption_mapped same' (run_cell_at old same')) e
      ∙ ap (λ z. interruption_mapped z (run_cell_at old z) (interruption_error was near sample)) s)

  module _ (parameters : new.parameters ≡ was)
      (changed : run_cell_at new same ≡ run_updated old.parameters.reset same (run_cell_at old same) (interruption_error was near sample))
      (other : run_cell_at new (not same) ≡ run_cell_at old (not same)) (cells : new.regular ≡ old.regular) (run_indices : List ℕ)
      (component count : ℕ) (within : component < length run_indices) where
    pub interrupted_writes : (raised index order : ℕ) (before middle after : List Bool)
        → middle ≡ before ++ interrupted_run_bits (blocks (get_or run_indices component 0) count) []
        → raised ≡ (blocks (get_or run_indices component 0) count).run_index
        → order ≡ run_order raised → after ≡ middle ++ interrupting_bits was (run_cell_at old same) near order sample → index
        ≡ run_index_lowered raised
        → Writes was (record { cells = old; run_indices = run_indices; written = before })
        (record { cells = new; run_indices = set run_indices component index; written = after })
        (interrupted_run component count near sample ∷ [])
    interrupted_writes raised index order before middle after m r o a i =
        let run = blocks (get_or run_indices component 0) count in
        let own = interrupting_bits was (run_cell_at old same) near (run_order run.run_index) sample in
        let written : after ≡ before ++ interrupted_run_bits run own = a
        ∙ ap (λ z. z ++ interrupting_bits was (run_cell_at old same) near order sample) m
        ∙ ap (λ z. (before ++ interrupted_run_bits run []) ++ interrupting_bits was (run_cell_at old same) near z sample)
        (o ∙ ap run_order r) ∙ append_assoc before (interrupted_run_bits run []) own
        ∙ ap (λ z. before ++ z) (interruption_then run own) in
        record {
          is_after = λ earlier h. after_interruption was old run_indices earlier h component count within near sample index same
              (interruption_error was near sample) new (i ∙ ap run_index_lowered r) refl refl cells parameters changed other;
          bits_are = λ earlier h. written
              ∙ ap (λ (z : RunCell). before ++ interrupted_run_bits run (interrupting_bits was z near (run_order run.run_index) sample))
              (h.run_cells same) ∙ ap (λ z. before
              ++ interrupted_run_bits (blocks z count)
              (interrupting_bits was (run_cell_before was earlier same) near (run_order (blocks z count).run_index) sample))
              (h.run_indices_are component) ∙ ap (λ z. before ++ z)
              (sym (event_interrupted was earlier component count near sample)
              ∙ sym (bits_one was earlier (interrupted_run component count near sample)));
        }
