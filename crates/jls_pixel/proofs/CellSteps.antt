-- What one more sample or event does to what a coder carries.
use Rattle.std.proofs.Common.{◌≡◌, ℕ, Bool, false, cond, List, [], ◌∷◌, ◌++◌, refl, sym, ap, ◌∙◌, subst, inl, inr}
use Rattle.std.specs.Prelude.{ℤ}
use Rattle.std.specs.List.{fold}
use Rattle.std.proofs.lemmas.Bool.{cases_eq, eq-eqb, ne_eqb}
use Rattle.std.proofs.lemmas.Grind.{flat_map-append}
use Rattle.std.proofs.lemmas.List.{append-nil}
use Rattle.jls_values.specs.Params.{CodingParameters}
use Rattle.jls_context.specs.declared.mode.Neighbours.{Neighbours}
use Rattle.jls_context.specs.declared.regular.Cell.{Cell}
use Rattle.jls_context.specs.declared.interruption.RunCell.{RunCell}
use Rattle.jls_context.specs.Mode.{context}
use Rattle.jls_context.specs.Regular.{updated, initial_cell}
use Rattle.jls_context.specs.Interruption.{initial_run_cell, run_updated}
use Rattle.jls_context.specs.Variables.{Variables, initial_variables, cell_at, run_cell_at}
use Rattle.jls_interval.specs.Cells.{regular_error, interruption_error}
use Rattle.jls_interval.proofs.FoldedEvents.{fold_passing}
use Rattle.jls_interval.proofs.AfterEvents.{get_same, cell_kept}
use Rattle.jls_pixel.specs.Events.{Event}
use Rattle.jls_pixel.specs.Cells.{CodedSample, regular, interrupting, coded, coded_samples, uses_cell, cell_after, cell_before}
use Rattle.jls_pixel.specs.Cells.{is_interrupting}
use Rattle.jls_pixel.specs.Cells.{run_cell_after, run_cell_before, run_index_after, run_index_before}
use Rattle.jls_pixel.specs.After.{CellsAfter, IsAfter}

cell_more : (p : CodingParameters) (earlier : List CodedSample) (x : CodedSample) (q : ℕ)
    → cell_before p (earlier ++ x ∷ []) q ≡ cond (uses_cell p q x) (cell_after p (cell_before p earlier q) x) (cell_before p earlier q)
unfolding cell_before
cell_more p earlier x q = fold_passing (cell_after p) (uses_cell p q) (initial_cell p) earlier x

run_cell_more : (p : CodingParameters) (earlier : List CodedSample) (x : CodedSample)
    → run_cell_before p (earlier ++ x ∷ []) ≡ cond (is_interrupting x) (run_cell_after p (run_cell_before p earlier) x)
    (run_cell_before p earlier)
unfolding run_cell_before
run_cell_more p earlier x = fold_passing (run_cell_after p) is_interrupting (initial_run_cell p) earlier x

-- before the first sample
pub cells_at_start : (p : CodingParameters) → CellsAfter p (initial_variables p) []
unfolding cell_at cell_before run_cell_before
cells_at_start p = record { parameters = refl; regular_cells = λ q. get_same 365 (initial_cell p) q; run_cell = refl }

module _ (p : CodingParameters) (cells cells' : Variables) (earlier : List CodedSample) (t : CellsAfter p cells earlier) where
  -- a sample of regular mode more
  pub cells_after_regular : (near : Neighbours) (q : ℕ) → q ≡ context p near → (s : ℕ) (error : ℤ)
      → error ≡ regular_error p (cell_at cells q) near s → cells'.parameters ≡ cells.parameters
      → cell_at cells' q ≡ updated p.reset (cell_at cells q) error
      → ((other : ℕ) → (other ≡ q → ⊥) → cell_at cells' other ≡ cell_at cells other)
      → ((same : Bool) → run_cell_at cells' same ≡ run_cell_at cells same)
      → CellsAfter p cells' (earlier ++ regular near s ∷ [])
  cells_after_regular near q q_is s error error_is parameters changed others run_cells = record {
    parameters = parameters ∙ t.parameters;
    regular_cells = each;
    run_cell = run_cells false ∙ t.run_cell ∙ sym (run_cell_more p earlier (regular near s));
  }
    where
      own : cell_at cells' q ≡ cell_before p (earlier ++ regular near s ∷ []) q
      own =
          let used = eq-eqb (context p near) q (sym q_is) in
          changed ∙ ap (updated p.reset (cell_at cells q)) error_is
          ∙ ap (λ (z : Cell). updated p.reset z (regular_error p z near s)) (t.regular_cells q)
          ∙ sym (cell_more p earlier (regular near s) q
          ∙ ap (λ z. cond z (cell_after p (cell_before p earlier q) (regular near s)) (cell_before p earlier q)) used)

      each : (other : ℕ) → cell_at cells' other ≡ cell_before p (earlier ++ regular near s ∷ []) other
      each other =
          elim (cases_eq other q) [
            | inl e ↦ subst (λ z. cell_at cells' z ≡ cell_before p (earlier ++ regular near s ∷ []) z) (sym e) own
            | inr ne ↦
                (let unused = ne_eqb (context p near) other (λ o. ne (sym o ∙ sym q_is)) in
                others other ne ∙ t.regular_cells other ∙ sym (cell_more p earlier (regular near s) other
                ∙ ap (λ z. cond z (cell_after p (cell_before p earlier other) (regular near s)) (cell_before p earlier other)) unused))
          ]

  -- a sample of an interrupting pixel more
  pub cells_after_interrupting : (near : Neighbours) (s : ℕ) (error : ℤ) → error ≡ interruption_error p near s
      → cells'.regular ≡ cells.regular → cells'.parameters ≡ cells.parameters
      → run_cell_at cells' false ≡ run_updated p.reset false (run_cell_at cells false) error
      → CellsAfter p cells' (earlier ++ interrupting near s ∷ [])
  cells_after_interrupting near s error error_is regular_cells parameters changed = record {
    parameters = parameters ∙ t.parameters;
    regular_cells = λ q. cell_kept cells cells' regular_cells parameters q ∙ t.regular_cells q
        ∙ sym (cell_more p earlier (interrupting near s) q);
    run_cell = changed ∙ ap (run_updated p.reset false (run_cell_at cells false)) error_is
        ∙ ap (λ (z : RunCell). run_updated p.reset false z (interruption_error p near s)) t.run_cell
        ∙ sym (run_cell_more p earlier (interrupting near s));
  }

-- Events --------------------------------------------------------------------------------------------

pub coded_more : (earlier : List Event) (e : Event) → coded_samples (earlier ++ e ∷ []) ≡ coded_samples earlier ++ coded e
coded_more earlier e = flat_map-append coded earlier (e ∷ []) ∙ ap (λ z. coded_samples earlier ++ z) (append-nil (coded e))

index_more : (earlier : List Event) (e : Event) → run_index_before (earlier ++ e ∷ []) ≡ run_index_after (run_index_before earlier) e
unfolding run_index_before
index_more earlier e = fold_more earlier 0
  where
    fold_more : (es : List Event) (r : ℕ) → fold run_index_after r (es ++ e ∷ []) ≡ run_index_after (fold run_index_after r es) e
    fold_more [] r = refl
    fold_more (x ∷ es) r = fold_more es (run_index_after r x)

pub after_start : (p : CodingParameters) → IsAfter p (initial_variables p) 0 []
unfolding run_index_before
after_start p = record { cells_after = cells_at_start p; run_index_is = refl }

-- an event more
pub after_event : (p : CodingParameters) (cells' : Variables) (r r' : ℕ) (earlier : List Event) (e : Event) → r ≡ run_index_before earlier
    → CellsAfter p cells' (coded_samples earlier ++ coded e) → r' ≡ run_index_after r e → IsAfter p cells' r' (earlier ++ e ∷ [])
after_event p cells' r r' earlier e r_is cells r'_is = record {
  cells_after = subst (CellsAfter p cells') (sym (coded_more earlier e)) cells;
  run_index_is = r'_is ∙ ap (λ z. run_index_after z e) r_is ∙ sym (index_more earlier e);
}
