-- Events of a run, from what was read.
use Rattle.std.proofs.Common.{◌≡◌, ℕ, ◌+◌, ◌^◌, ◌<◌, ◌≤◌, Bool, true, List, ◌++◌, length, replicate, refl, sym, ap, ◌∙◌, arith}
use Rattle.jls_values.specs.Params.{CodingParameters}
use Rattle.jls_context.specs.declared.mode.Neighbours.{Neighbours}
use Rattle.jls_context.specs.declared.interruption.RunCell.{RunCell}
use Rattle.std.specs.List.{AllByRecursion}
use Rattle.jls_values.specs.Params.{range, qbpp}
use Rattle.jls_context.specs.Mode.{is_run_mode}
use Rattle.jls_interval.specs.Events.{Event, regular, run_to_end, interrupted_run, Above, neighbours}
use Rattle.jls_interval.specs.Code.{event_bits, run_to_end_bits}
use Rattle.jls_interval.specs.Cells.{is_same, run_cell_before}
use Rattle.jls_interval.specs.Runs.{run_order, blocks, run_index_before}
use Rattle.jls_interval.specs.Growth.{Fits}
use Rattle.jls_interval.specs.Code.{interrupted_run_bits, interrupting_bits}
use Rattle.jls_interval.specs.Reading.{NoRun, NoInterruption}
use Rattle.jls_interval.proofs.Runs.{run_index_before_small, run_apart, run_same}
use Rattle.jls_interval.proofs.EventsApart.{broken_is, run_value, true_false}

module _ (p : CodingParameters) (wide : range p ≤ 2 ^ qbpp p) (w k : ℕ) (up : Above)
    (above_small : AllByRecursion (λ s. s ≤ p.maxval) up.line_above) (line : List ℕ) (earlier : List Event) (r : ℕ)
    (r_is : r ≡ run_index_before earlier k) (w0 : ℕ) (w0_is : length line + w0 ≡ w) where
  abbrev now : Neighbours
  now = neighbours w up line (length line)

  abbrev Possible : Event → Type 0
  Possible e = Fits p w k up line now e

  small : r ≤ 31
  small = let h = run_index_before_small earlier k in omega arith

  -- where the run is interrupted
  abbrev there : ℕ → Neighbours
  there c = neighbours w up (line ++ replicate c now.ra) (length line + c)

  -- the bits of a run to the end are those of its blocks
  to_end_is : (k' c : ℕ) (more : List Bool) → k' ≡ k → c ≡ w0
      → event_bits p earlier (run_to_end k' c) ++ more ≡ run_to_end_bits (blocks r w0) ++ more
  unfolding event_bits
  to_end_is k' c more a b =
      ap (λ z. run_to_end_bits (blocks (run_index_before earlier z) c) ++ more) a
      ∙ ap (λ z. run_to_end_bits (blocks (run_index_before earlier k) z) ++ more) b
      ∙ ap (λ z. run_to_end_bits (blocks z w0) ++ more) (sym r_is)

  -- the bits of an interrupted run are those of its blocks and its count, and then those of the sample that interrupts it
  interrupted_is : (k' c : ℕ) (n : Neighbours) (s : ℕ) (more : List Bool) → k' ≡ k
      → event_bits p earlier (interrupted_run k' c n s) ++ more
      ≡ interrupted_run_bits (blocks r c)
      (interrupting_bits p (run_cell_before p earlier (is_same n)) n (run_order (blocks r c).run_index) s ++ more)
  interrupted_is k' c n s more a =
      ap (λ z. event_bits p earlier (interrupted_run z c n s) ++ more) a ∙ broken_is p wide w k up above_small line earlier c n s more
      ∙ ap (λ z. interrupted_run_bits (blocks z c)
      (interrupting_bits p (run_cell_before p earlier (is_same n)) n (run_order (blocks z c).run_index) s ++ more)) (sym r_is)

  module _ (given : List Bool) (run : is_run_mode now ≡ true) where
    -- no run at the start
    pub run_none : NoRun r w0 given → (e : Event) (more : List Bool) → Possible e → given ≡ event_bits p earlier e ++ more → ⊥
    run_none none (regular n s) more fits e = true_false (is_run_mode now) run fits.0
    run_none none (run_to_end k' c) more fits e = let h : length line + c ≡ w = fits.2 in
        none.0 more (e ∙ to_end_is k' c more fits.1 (omega arith))
    run_none none (interrupted_run k' c n s) more fits e =
        let h : length line + c < w = fits.2 in
        none.1 c (interrupting_bits p (run_cell_before p earlier (is_same n)) n (run_order (blocks r c).run_index) s ++ more) (omega arith)
        (e ∙ interrupted_is k' c n s more fits.1)

    -- a run to the end
    pub run_end : (left : List Bool) → given ≡ run_to_end_bits (blocks r w0) ++ left
        → given ≡ event_bits p earlier (run_to_end k w0) ++ left
    run_end left e = e ∙ sym (to_end_is k w0 left refl refl)

    module _ (c : ℕ) (short : c < w0) (left : List Bool) (is : given ≡ interrupted_run_bits (blocks r c) left) (cell : RunCell)
        (cell_is : cell ≡ run_cell_before p earlier (is_same (there c))) (j : ℕ) (j_is : j ≡ run_order (blocks r c).run_index) where
      -- a run with no sample after it
      pub run_alone : NoInterruption p cell (there c) j left → (e : Event) (more : List Bool) → Possible e
          → given ≡ event_bits p earlier e ++ more → ⊥
      run_alone none (regular n s) more fits e = true_false (is_run_mode now) run fits.0
      run_alone none (run_to_end k' c') more fits e =
          let h : length line + c' ≡ w = fits.2 in
          run_apart c r c w0 left more small (omega arith) short (sym is ∙ e ∙ to_end_is k' c' more fits.1 (omega arith))
      run_alone none (interrupted_run k' c' n s) more fits e =
          let h = run_same c r c c' left
          (interrupting_bits p (run_cell_before p earlier (is_same n)) n (run_order (blocks r c').run_index) s ++ more) small
          (omega arith) (sym is ∙ e ∙ interrupted_is k' c' n s more fits.1) in
          let n_is : n ≡ there c = fits.3 ∙ ap there (sym h.0) in
          let a_is : (there c).ra ≡ now.ra = run_value w up line c in
          let bits_are : left ≡ interrupting_bits p cell (there c) j s ++ more = h.1
          ∙ ap (λ z. interrupting_bits p (run_cell_before p earlier (is_same n)) n (run_order (blocks r z).run_index) s ++ more) (sym h.0)
          ∙ ap (λ (z : Neighbours). interrupting_bits p (run_cell_before p earlier (is_same z)) z (run_order (blocks r c).run_index) s
          ++ more) n_is ∙ ap (λ (z : RunCell). interrupting_bits p z (there c) (run_order (blocks r c).run_index) s ++ more) (sym cell_is)
          ∙ ap (λ z. interrupting_bits p cell (there c) z s ++ more) (sym j_is) in
          none s more fits.4 (λ o. fits.5 (o ∙ a_is)) bits_are

      pub run_broken : (s : ℕ) (rest : List Bool) → left ≡ interrupting_bits p cell (there c) j s ++ rest
          → given ≡ event_bits p earlier (interrupted_run k c (there c) s) ++ rest
      run_broken s rest e =
          is ∙ ap (interrupted_run_bits (blocks r c))
          (e ∙ ap (λ z. interrupting_bits p cell (there c) z s ++ rest) j_is
          ∙ ap (λ (z : RunCell). interrupting_bits p z (there c) (run_order (blocks r c).run_index) s ++ rest) cell_is)
          ∙ sym (interrupted_is k c (there c) s rest refl)

      pub run_fits : (s : ℕ) → s ≤ p.maxval → (s ≡ (there c).ra → ⊥) → Possible (interrupted_run k c (there c) s)
      run_fits s a b = (run, refl, omega arith, refl, a, λ o. b (o ∙ sym (run_value w up line c)))
