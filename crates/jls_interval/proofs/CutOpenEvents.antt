-- The event in hand, from its run or its sample.
use Rattle.std.proofs.Common.{◌≡◌, ℕ, ◌+◌, ◌-◌, ◌<◌, ◌≤◌, Bool, true, false, List, [], ◌∷◌, ◌++◌, length, get_or, refl, sym, ap, ◌∙◌, arith}
use Rattle.std.proofs.Common.{inl, inr}
use Rattle.std.specs.List.{AllByRecursion}
use Rattle.std.proofs.lemmas.List.{append-nil}
use Rattle.std.proofs.lemmas.Bool.{cases_eq}
use Rattle.jls_values.specs.Params.{CodingParameters, AreCodingParameters}
use Rattle.jls_context.specs.declared.mode.Neighbours.{Neighbours}
use Rattle.jls_context.specs.declared.interruption.RunCell.{RunCell}
use Rattle.jls_context.specs.Mode.{is_run_mode, context}
use Rattle.jls_context.specs.Variables.{Variables, cell_at, run_cell_at}
use Rattle.jls_interval.specs.Events.{Event, regular, interrupted_run, Above}
use Rattle.jls_interval.specs.Cells.{is_same, run_cell_before}
use Rattle.jls_interval.specs.Code.{event_bits, interrupting_bits, interrupted_run_bits}
use Rattle.jls_interval.specs.Runs.{run_order, blocks}
use Rattle.jls_interval.specs.Growth.{Fits}
use Rattle.jls_interval.specs.Reading.{NoInterruption}
use Rattle.jls_interval.specs.RunState.{RunIs}
use Rattle.jls_interval.specs.After.{IsAfter}
use Rattle.jls_interval.specs.OpenEvents.{now_at, following, NoEvent}
use Rattle.jls_interval.specs.CutEvents.{IsProperPrefix}
use Rattle.jls_interval.specs.CutEventsOpen.{BeginsSample, BeginsInterruption, BeginsRun, BeginsEvent}
use Rattle.jls_interval.specs.declared.run_reader.Run.TheVariants.{Interrupted}
use Rattle.jls_interval.proofs.GrownLines.{some_fits}
use Rattle.jls_interval.proofs.SamplesRead.{wide}
use Rattle.jls_interval.proofs.RunEvents.{run_alone, run_broken, run_fits}
use Rattle.jls_interval.proofs.AfterEvents.{sample_bits}
use Rattle.jls_interval.proofs.OpenEventBits.{broken_with}

module _ (p : CodingParameters) (ok : AreCodingParameters p) (w k : ℕ) (up : Above)
    (above_small : AllByRecursion (λ s. s ≤ p.maxval) up.line_above) (line : List ℕ) (short : length line < w) (cells : Variables)
    (ri : List ℕ) (earlier : List Event) (t : IsAfter p cells ri earlier) where
  abbrev near : Neighbours
  near = now_at w up line

  abbrev r : ℕ
  r = get_or ri k 0

  abbrev w0 : ℕ
  w0 = w - length line

  w0_is : length line + w0 ≡ w
  w0_is = omega arith

  -- no bit: some event can come, and each has a bit
  pub not_begun_goes_on : ((e : Event) → Fits p w k up line near e → event_bits p earlier e ≡ [] → ⊥) → BeginsEvent p w k up line [] earlier
  not_begun_goes_on some =
      let e = some_fits p w k up line short in
      record { event = e.0; fits = e.1; cut = first (event_bits p earlier e.0) (some e.0 e.1) }
    where
      first : (xs : List Bool) → (xs ≡ [] → ⊥) → IsProperPrefix [] xs
      first [] none = absurd (none refl)
      first (x ∷ xs) none = record { missing = x; more_missing = xs; whole_is = refl }

  -- the first bits of a sample that can come next are those of a regular event that can
  pub sample_begins : is_run_mode near ≡ false → (fed : List Bool) → BeginsSample p (cell_at cells (context p near)) near fed
      → BeginsEvent p w k up line fed earlier
  sample_begins mode fed b = record {
    event = regular near b.sample;
    fits = (mode, refl, b.at_most);
    cut = record {
      missing = b.cut.missing;
      more_missing = b.cut.more_missing;
      whole_is = sample_bits p cells ri earlier t near b.sample
          ∙ b.cut.whole_is;
    };
  }

  module _ (run : is_run_mode near ≡ true) where
    abbrev there : ℕ → Neighbours
    there count = following w up line count

    abbrev cell : ℕ → RunCell
    cell count = run_cell_before p earlier (is_same (there count))

    -- a run with a sample after it
    with_sample : (count : ℕ) → count < w0 → (s : ℕ) → s ≤ p.maxval → (s ≡ (there count).ra → ⊥) → (fed : List Bool)
        → IsProperPrefix fed (interrupted_run_bits (blocks r count)
        (interrupting_bits p (cell count) (there count) (run_order (blocks r count).run_index) s))
        → BeginsEvent p w k up line fed earlier
    with_sample count l s small other fed cut =
        let j = run_order (blocks r count).run_index in let sample = interrupting_bits p (cell count) (there count) j s in
        let given = interrupted_run_bits (blocks r count) (sample ++ []) in
        let is = run_broken p (wide p ok) w k up above_small line earlier r (t.run_indices_are k) w0 w0_is given run count l (sample ++ [])
        refl (cell count) refl j refl s [] refl in
        let whole : event_bits p earlier (interrupted_run k count (there count) s) ≡ interrupted_run_bits (blocks r count) sample =
        sym (append-nil _) ∙ sym is ∙ ap (interrupted_run_bits (blocks r count)) (append-nil sample) in
        record {
          event = interrupted_run k count (there count) s;
          fits = run_fits p (wide p ok) w k up above_small line earlier r (t.run_indices_are k) w0 w0_is given run count l (sample ++ [])
              refl (cell count) refl j refl s small other;
          cut = record { missing = cut.missing; more_missing = cut.more_missing; whole_is = whole ∙ cut.whole_is };
        }

    -- another value than the run's
    another : (v : ℕ) → (s : ℕ) × (s ≤ p.maxval) × (s ≡ v → ⊥)
    another v = let one = ok.maxval_at_least in
        elim (cases_eq v 0) [ inl e ↦ (1, one, λ q. omega arith) | inr e ↦ (0, omega arith, λ q. e (sym q)) ]

    pub run_begins : (fed : List Bool) → BeginsRun r w0 fed → BeginsEvent p w k up line fed earlier
    run_begins fed b =
        let s = another (there b.count).ra in
        with_sample b.count b.short s.0 s.1 s.2 fed
        (b.cut (interrupting_bits p (cell b.count) (there b.count) (run_order (blocks r b.count).run_index) s.0))

    module _ (count rx : ℕ) (fed code : List Bool) (h : RunIs r w0 fed code (Interrupted count rx)) where
      order_is : run_order rx ≡ run_order (blocks r count).run_index
      order_is = ap run_order (sym h.2)

      cell_is : run_cell_at cells (is_same (there count)) ≡ cell count
      cell_is = t.run_cells (is_same (there count))

      pub interruption_begins : BeginsInterruption p (run_cell_at cells (is_same (there count))) (there count) (run_order rx) code
          → BeginsEvent p w k up line fed earlier
      interruption_begins b =
          let sample = interrupting_bits p (cell count) (there count) (run_order (blocks r count).run_index) b.sample in
          let same : sample ≡ code ++ b.cut.missing ∷ b.cut.more_missing =
          ap (λ z. interrupting_bits p (cell count) (there count) z b.sample) (sym order_is)
          ∙ ap (λ (z : RunCell). interrupting_bits p z (there count) (run_order rx) b.sample) (sym cell_is) ∙ b.cut.whole_is in
          with_sample count h.0 b.sample b.at_most b.another fed (record {
            missing = b.cut.missing;
            more_missing = b.cut.more_missing;
            whole_is = ap (interrupted_run_bits (blocks r count)) same
                ∙ sym (broken_with (blocks r count) code (b.cut.missing ∷ b.cut.more_missing))
                ∙ ap (λ z. z ++ b.cut.missing ∷ b.cut.more_missing) (sym h.1);
          })

      pub interruption_missing : ((more : List Bool)
          → NoInterruption p (run_cell_at cells (is_same (there count))) (there count) (run_order rx) (code ++ more))
          → (more : List Bool) → NoEvent p w k up line (fed ++ more) earlier
      interruption_missing none more =
          run_alone p (wide p ok) w k up above_small line earlier r (t.run_indices_are k) w0 w0_is (fed ++ more) run count h.0
          (code ++ more) (ap (λ z. z ++ more) h.1 ∙ broken_with (blocks r count) code more) (run_cell_at cells (is_same (there count)))
          cell_is (run_order rx) order_is (none more)
