-- The machine in hand holds no whole event.
use Rattle.std.proofs.Common.{◌≡◌, ℕ, zero, suc, replicate, ◌+◌, ◌-◌, ◌<◌, ◌≤◌, Bool, true, false, List, [], ◌∷◌, ◌++◌, length, get_or}
use Rattle.std.proofs.Common.{refl, sym, ap, ◌∙◌, subst, arith, append_assoc}
use Rattle.std.specs.List.{AllByRecursion}
use Rattle.jls_values.specs.Params.{CodingParameters, AreCodingParameters, qbpp, limit}
use Rattle.jls_context.specs.declared.mode.Neighbours.{Neighbours}
use Rattle.jls_context.specs.Mode.{is_run_mode, context}
use Rattle.jls_context.specs.Regular.{regular_k}
use Rattle.jls_context.specs.Interruption.{run_k}
use Rattle.jls_context.specs.Variables.{Variables, cell_at, run_cell_at}
use Rattle.jls_bits.specs.CodeState.{bits_fed, BeginsCode}
use Rattle.jls_bits.proofs.CodeSteps.{begins, none_whole}
use Rattle.jls_interval.specs.Events.{Event, regular, run_to_end, interrupted_run, Above, neighbours}
use Rattle.jls_interval.specs.Cells.{is_same}
use Rattle.jls_interval.specs.Runs.{run_order, Blocks}
use Rattle.jls_interval.specs.Code.{event_bits, interrupted_run_bits}
use Rattle.jls_bits.specs.Bits.{bits}
use Rattle.jls_interval.specs.Growth.{Fits}
use Rattle.jls_interval.specs.Reading.{NoSample, NoInterruption}
use Rattle.jls_interval.specs.After.{IsAfter}
use Rattle.jls_interval.specs.OpenEvents.{NoEvent, now_at, following, OpenEventAt, EventStepIs, EventPushed}
use Rattle.jls_interval.specs.declared.line_reader.LineReader.{LineReader}
use Rattle.jls_interval.specs.declared.line_reader.EventStep.{EventStep}
use Rattle.jls_interval.specs.declared.line_reader.OpenEvent.{OpenEvent}
use Rattle.jls_interval.specs.declared.line_reader.OpenEvent.TheVariants.{NotBegun, Sample, InRun, Interruption}
use Rattle.jls_interval.proofs.SamplesRead.{wide, regular_none, interruption_none}
use Rattle.jls_interval.proofs.EventsApart.{true_false, limit_room, small_get, run_value}
use Rattle.jls_interval.proofs.RunSteps.{no_whole}
use Rattle.jls_interval.proofs.RunEvents.{run_none, run_alone}
use Rattle.jls_interval.proofs.AfterEvents.{sample_missing}
use Rattle.jls_interval.proofs.EventsApart.{j_small}

nothing_else : (xs ys : List Bool) → [] ≡ xs ++ ys → xs ≡ []
nothing_else [] ys e = refl
nothing_else (x ∷ xs) ys e = cc

pub rb_small : (p : CodingParameters) (w : ℕ) (up : Above) → AllByRecursion (λ s. s ≤ p.maxval) up.line_above → (x : ℕ) (l : List ℕ)
    → (neighbours w up l x).rb ≤ p.maxval
rb_small p w up h zero l = small_get up.line_above 0 p.maxval h
rb_small p w up h (suc x) l = small_get up.line_above (suc x) p.maxval h

-- the neighbours of a column depend on its line by Ra alone
parts : (w : ℕ) (up : Above) (l l' : List ℕ) (x : ℕ)
    → record { ra = (neighbours w up l' x).ra; rb = (neighbours w up l x).rb; rc = (neighbours w up l x).rc; rd = (neighbours w up l x).rd }
    ≡ neighbours w up l' x
parts w up l l' zero = refl
parts w up l l' (suc x) = refl

-- after a run Ra is the run's value
pub near_after : (w : ℕ) (up : Above) (line : List ℕ) (count v x : ℕ) (next : Neighbours) → v ≡ (now_at w up line).ra
    → x ≡ length line + count → next ≡ neighbours w up line x
    → record { ra = v; rb = next.rb; rc = next.rc; rd = next.rd } ≡ following w up line count
near_after w up line count v x next a b e =
    let l' = line ++ replicate count (now_at w up line).ra in
    let f : next ≡ neighbours w up line (length line + count) = e ∙ ap (λ z. neighbours w up line z) b in
    ap (λ (z : Neighbours). record { ra = v; rb = z.rb; rc = z.rc; rd = z.rd }) f
    ∙ ap (λ z. record {
      ra = z;
      rb = (neighbours w up line (length line + count)).rb;
      rc =
          (neighbours w up line (length line + count)).rc;
      rd = (neighbours w up line (length line + count)).rd;
    })
    (a ∙ sym (run_value w up line count)) ∙ parts w up line l' (length line + count)

-- bits that come after those of an interrupted run
pub broken_with : (run : Blocks) (rest more : List Bool) → interrupted_run_bits run rest ++ more ≡ interrupted_run_bits run (rest ++ more)
broken_with run rest more = append_assoc (replicate run.full_blocks true ++ false ∷ bits (run_order run.run_index) run.remaining) rest more

-- where no sample stands at the start, no event does
pub no_sample_no_event : (p : CodingParameters) (w k : ℕ) (up : Above) (line : List ℕ) (cells : Variables) (ri : List ℕ)
    (earlier : List Event)
    → IsAfter p cells ri earlier → (fed : List Bool) → is_run_mode (now_at w up line) ≡ false
    → NoSample p (cell_at cells (context p (now_at w up line))) (now_at w up line) fed → NoEvent p w k up line fed earlier
no_sample_no_event p w k up line cells ri earlier t fed mode none (regular n s) rest fits e =
    sample_missing p cells ri earlier t (now_at w up line) fed none s rest fits.2
    (e ∙ ap (λ (z : Neighbours). event_bits p earlier (regular z s) ++ rest) fits.1)
no_sample_no_event p w k up line cells ri earlier t fed mode none (run_to_end k' c) rest fits e =
    true_false (is_run_mode (now_at w up line)) fits.0 mode
no_sample_no_event p w k up line cells ri earlier t fed mode none (interrupted_run k' c n s) rest fits e =
    true_false (is_run_mode (now_at w up line)) fits.0 mode

module _ (p : CodingParameters) (ok : AreCodingParameters p) (w k : ℕ) (up : Above)
    (above_small : AllByRecursion (λ s. s ≤ p.maxval) up.line_above) (line : List ℕ) (short : length line < w) (cells : Variables)
    (ri : List ℕ) (earlier : List Event) (t : IsAfter p cells ri earlier) where
  abbrev r : ℕ
  r = get_or ri k 0

  w0_is : length line + (w - length line) ≡ w
  w0_is = omega arith

  -- the bits that the machine in hand was fed are no whole event that can come next
  pub open_event_none : (some : (e : Event) → Fits p w k up line (now_at w up line) e → event_bits p earlier e ≡ [] → ⊥)
      (open_event : OpenEvent) (fed : List Bool)
      → OpenEventAt p w up line cells r open_event fed → NoEvent p w k up line fed earlier
  open_event_none some NotBegun fed h = λ e rest fits is. some e fits (nothing_else (event_bits p earlier e) rest (sym h ∙ is))
  open_event_none some (Sample code) fed h =
      let room = limit_room p 0 (omega arith) in
      let kk = regular_k (cell_at cells (context p (now_at w up line))) in
      no_sample_no_event p w k up line cells ri earlier t fed h.0
      (regular_none p ok (cell_at cells (context p (now_at w up line))) (now_at w up line) fed
      (λ m rest has e. none_whole kk (limit p) (qbpp p) (omega arith) fed
      (subst (λ z. BeginsCode kk (limit p) (qbpp p) z) (sym h.2) (begins kk (limit p) (qbpp p) (omega arith) code h.1)) m rest has e))
  open_event_none some (InRun state) fed h =
      run_none p (wide p ok) w k up above_small line earlier r (t.run_indices_are k) (w - length line) w0_is fed h.0
      (no_whole r (w - length line) fed state h.1 h.2)
  open_event_none some (Interruption i) fed h =
      let count = i.count in let run_index = i.run_index in let code = i.code in
      let near = following w up line count in let cell = run_cell_at cells (is_same near) in let j = run_order run_index in
      let few = j_small run_index in let room = limit_room p j few in
      let kk = run_k (is_same near) cell in let g = limit p - j - 1 in let s = h.3 in
      let none : NoInterruption p cell near j (bits_fed g (qbpp p) code) =
      interruption_none p ok cell near (rb_small p w up above_small (length line + count) (line ++ replicate count (now_at w up line).ra))
      j few (bits_fed g (qbpp p) code)
      (λ m rest has e. none_whole kk g (qbpp p) room (bits_fed g (qbpp p) code) (begins kk g (qbpp p) room code h.2) m rest has e) in
      run_alone p (wide p ok) w k up above_small line earlier r (t.run_indices_are k) (w - length line) w0_is fed h.0 count s.0
      (bits_fed g (qbpp p) code) s.1 cell (t.run_cells (is_same near)) j (ap run_order (sym s.2)) none

-- bits taken in two parts
pub run_then : (k : ℕ) (up : Above) (old new : LineReader) (fed first chunk middle unread : List Bool) (earlier : List Event)
    (step : EventStep)
    → chunk ≡ first ++ middle
    → EventPushed k up old new (fed ++ first) middle unread earlier step → EventPushed k up old new fed chunk unread earlier step
run_then k up old new fed first chunk middle unread earlier step e h = record {
  taken = first ++ h.taken;
  chunk_is = e ∙ ap (λ z. first ++ z) h.chunk_is ∙ sym (append_assoc first h.taken unread);
  step_is = subst (λ z. EventStepIs k up old new z earlier step) (append_assoc fed first h.taken) h.step_is;
  all = h.all;
}
