-- A sample that is read: what its Golomb code, or none, says of the bits.
use Rattle.std.proofs.Common.{◌≡◌, ℕ, ◌-◌, ◌≤◌, Bool, true, false, ltb, List, ◌++◌, sym, ap, ◌∙◌, arith}
use Rattle.std.specs.Prelude.{ℤ}
use Rattle.jls_values.specs.Params.{CodingParameters, AreCodingParameters, qbpp, limit}
use Rattle.jls_bits.specs.Golomb.{golomb, has_golomb, NoCodeBegins}
use Rattle.jls_context.specs.declared.mode.Neighbours.{Neighbours}
use Rattle.jls_context.specs.declared.regular.Cell.{Cell}
use Rattle.jls_context.specs.declared.interruption.RunCell.{RunCell}
use Rattle.jls_context.specs.Errors.{IsError}
use Rattle.jls_context.specs.Mode.{context}
use Rattle.jls_context.specs.Regular.{regular_k, regular_mapped, updated}
use Rattle.jls_context.specs.Interruption.{run_k, interruption_mapped, run_updated}
use Rattle.jls_context.specs.Variables.{Variables, cell_at, run_cell_at}
use Rattle.jls_context.proofs.Samples.{error_range}
use Rattle.jls_context.proofs.Sizes.{interruption_mapped_at_most}
use Rattle.jls_interval.specs.Cells.{regular_error, interruption_error}
use Rattle.jls_interval.specs.Code.{regular_bits}
use Rattle.jls_interval.proofs.Golomb.{golomb_same}
use Rattle.jls_interval.proofs.EventsApart.{has_from, limit_room}
use Rattle.jls_interval.proofs.SamplesRead.{wide, regular_none, regular_wrong}
use Rattle.jls_pixel.specs.Cells.{CodedSample, regular, interrupting, cell_before}
use Rattle.jls_pixel.specs.Code.{interrupting_bits, sample_bits}
use Rattle.jls_pixel.specs.After.{CellsAfter}
use Rattle.jls_pixel.specs.Reading.{RefusesSample, ReadsSample}
use Rattle.jls_pixel.specs.declared.sample.SampleKind.TheVariants.{Regular, Interrupting}
use Rattle.jls_pixel.proofs.CellSteps.{cells_after_regular, cells_after_interrupting}

module _ (p : CodingParameters) (ok : AreCodingParameters p) (cells : Variables) (near : Neighbours) (given : List Bool) where
  -- Regular mode ------------------------------------------------------------------------------------

  module _ (q : ℕ) (q_is : q ≡ context p near) where
    abbrev cell : Cell
    cell = cell_at cells q

    pub regular_is : (earlier : List CodedSample) → CellsAfter p cells earlier → (order s : ℕ)
        → sample_bits p order earlier (regular near s) ≡ regular_bits p cell near s
    unfolding sample_bits
    regular_is earlier t order s =
        ap (λ (z : Cell). regular_bits p z near s) (sym (t.regular_cells q ∙ ap (cell_before p earlier) q_is))

    pub regular_refused : NoCodeBegins (regular_k cell) (limit p) (qbpp p) given → RefusesSample p Regular near cells given
    regular_refused none = λ earlier t s rest l e.
        regular_none p ok cell near given none s rest l (e ∙ ap (λ z. z ++ rest) (regular_is earlier t 0 s))

    module _ (m : ℕ) (unread : List Bool) (has : has_golomb (regular_k cell) (limit p) (qbpp p) m ≡ true)
        (is : given ≡ golomb (regular_k cell) (limit p) (qbpp p) m ++ unread) where
      pub regular_no_error : ((e : ℤ) → IsError p e → regular_mapped cell e ≡ m → ⊥) → RefusesSample p Regular near cells given
      regular_no_error none = λ earlier t s rest l e.
          regular_wrong p ok cell near given m unread has is none s rest l (e ∙ ap (λ z. z ++ rest) (regular_is earlier t 0 s))

      pub regular_read : (s : ℕ) (e : ℤ) (cells' : Variables) → regular_mapped cell e ≡ m → regular_error p cell near s ≡ e
          → cells'.parameters ≡ cells.parameters → cell_at cells' q ≡ updated p.reset cell e
          → ((other : ℕ) → (other ≡ q → ⊥) → cell_at cells' other ≡ cell_at cells other)
          → ((same : Bool) → run_cell_at cells' same ≡ run_cell_at cells same)
          → ReadsSample p Regular near s cells cells' given unread
      regular_read s e cells' mapped error parameters changed others run_cells = λ earlier t. record {
        cells_after = cells_after_regular p cells cells' earlier t near q q_is s e (sym error) parameters changed others run_cells;
        bits_are = is ∙ ap (λ z. golomb (regular_k cell) (limit p) (qbpp p) z ++ unread) (sym mapped)
            ∙ ap (λ z. golomb (regular_k cell) (limit p) (qbpp p) (regular_mapped cell z) ++ unread) (sym error)
            ∙ ap (λ z. z ++ unread) (sym (regular_is earlier t 0 s));
      }

  -- A pixel that interrupts a run -------------------------------------------------------------------

  module _ (order : ℕ) (few : order ≤ 15) where
    abbrev run_cell : RunCell
    run_cell = run_cell_at cells false

    abbrev g : ℕ
    g = limit p - order - 1

    pub interrupting_is : (earlier : List CodedSample) → CellsAfter p cells earlier → (s : ℕ)
        → sample_bits p order earlier (interrupting near s) ≡ interrupting_bits p run_cell near order s
    unfolding sample_bits
    interrupting_is earlier t s = ap (λ (z : RunCell). interrupting_bits p z near order s) (sym t.run_cell)

    pub run_has : (s : ℕ) → has_golomb (run_k false run_cell) g (qbpp p) (interruption_mapped false run_cell (interruption_error p near s))
        ≡ true
    run_has s =
        let w = wide p ok in let room = limit_room p order few in let v = interruption_error p near s in
        let m = interruption_mapped_at_most p false run_cell v (error_range p (ltb near.rb near.ra) s near.rb) in
        has_from (run_k false run_cell) g (qbpp p) (interruption_mapped false run_cell v) room (omega arith)

    pub interrupting_refused : NoCodeBegins (run_k false run_cell) g (qbpp p) given → RefusesSample p (Interrupting order) near cells given
    interrupting_refused none = λ earlier t s rest l e.
        none (interruption_mapped false run_cell (interruption_error p near s)) rest (run_has s)
        (e ∙ ap (λ z. z ++ rest) (interrupting_is earlier t s))

    module _ (m : ℕ) (unread : List Bool) (has : has_golomb (run_k false run_cell) g (qbpp p) m ≡ true)
        (is : given ≡ golomb (run_k false run_cell) g (qbpp p) m ++ unread) where
      pub interrupting_no_error : ((e : ℤ) → IsError p e → (false ≡ true → ⊥) → interruption_mapped false run_cell e ≡ m → ⊥)
          → RefusesSample p (Interrupting order) near cells given
      interrupting_no_error none = λ earlier t s rest l e.
          let v = interruption_error p near s in
          let h = golomb_same (run_k false run_cell) g (qbpp p) (interruption_mapped false run_cell v) m rest unread (run_has s) has
          (sym (e ∙ ap (λ z. z ++ rest) (interrupting_is earlier t s)) ∙ is) in
          none v (error_range p (ltb near.rb near.ra) s near.rb) (λ z. cc) h.0

      pub interrupting_read : (s : ℕ) (e : ℤ) (cells' : Variables) → interruption_mapped false run_cell e ≡ m
          → interruption_error p near s ≡ e → cells'.regular ≡ cells.regular → cells'.parameters ≡ cells.parameters
          → run_cell_at cells' false ≡ run_updated p.reset false run_cell e
          → ReadsSample p (Interrupting order) near s cells cells' given unread
      interrupting_read s e cells' mapped error regular_cells parameters changed = λ earlier t. record {
        cells_after = cells_after_interrupting p cells cells' earlier t near s e (sym error) regular_cells parameters changed;
        bits_are = is ∙ ap (λ z. golomb (run_k false run_cell) g (qbpp p) z ++ unread) (sym mapped)
            ∙ ap (λ z. golomb (run_k false run_cell) g (qbpp p) (interruption_mapped false run_cell z) ++ unread) (sym error)
            ∙ ap (λ z. z ++ unread) (sym (interrupting_is earlier t s));
      }

-- what a Golomb reader says, at equal arguments
abbrev pub Code : List Bool → List Bool → ℕ → ℕ → ℕ → ℕ → Type 0
Code given unread m k g q = (has_golomb k g q m ≡ true) × (given ≡ golomb k g q m ++ unread)

abbrev pub NoCode : List Bool → ℕ → ℕ → ℕ → Type 0
NoCode given k g q = NoCodeBegins k g q given
