-- What one more event does to the folds over the earlier events.
use Rattle.std.proofs.Common.{◌≡◌, ℕ, Bool, true, false, cond, List, [], ◌∷◌, ◌++◌, refl, sym, ap, ◌∙◌, inl, inr}
use Rattle.std.specs.List.{filter, fold}
use Rattle.std.proofs.lemmas.Bool.{cases_Bool, eq-eqb}
use Rattle.jls_values.specs.Params.{CodingParameters}
use Rattle.jls_context.specs.Regular.{initial_cell}
use Rattle.jls_context.specs.Interruption.{run_updated, initial_run_cell}
use Rattle.jls_context.specs.declared.mode.Neighbours.{Neighbours}
use Rattle.jls_context.specs.declared.interruption.RunCell.{RunCell}
use Rattle.jls_interval.specs.Events.{Event, run_to_end, interrupted_run}
use Rattle.jls_interval.specs.Cells.{uses_cell, cell_after, cell_before, uses_run_cell, run_cell_after, run_cell_before, is_same}
use Rattle.jls_interval.specs.Cells.{interruption_error, equal}
use Rattle.jls_interval.specs.Runs.{is_run_of, run_index_after, run_index_before, blocks, run_index_lowered}

-- a fold over the elements that pass, and one element more
pub fold_passing : {A B : Type 0} → (f : B → A → B) (t : A → Bool) (a : B) (xs : List A) (x : A)
    → fold f a (filter t (xs ++ x ∷ [])) ≡ cond (t x) (f (fold f a (filter t xs)) x) (fold f a (filter t xs))
fold_passing f t a [] x = elim (cases_Bool (t x)) [ inl h ↦ rw h refl | inr h ↦ rw h refl ]
fold_passing f t a (y ∷ ys) x =
    elim (cases_Bool (t y)) [ inl h ↦ rw h (fold_passing f t (f a y) ys x) | inr h ↦ rw h (fold_passing f t a ys x) ]

pub cell_before_more : (p : CodingParameters) (earlier : List Event) (e : Event) (q : ℕ)
    → cell_before p (earlier ++ e ∷ []) q ≡ cond (uses_cell p q e) (cell_after p (cell_before p earlier q) e) (cell_before p earlier q)
unfolding cell_before
cell_before_more p earlier e q = fold_passing (cell_after p) (uses_cell p q) (initial_cell p) earlier e

pub cell_used : (p : CodingParameters) (earlier : List Event) (e : Event) (q : ℕ) → uses_cell p q e ≡ true
    → cell_before p (earlier ++ e ∷ []) q ≡ cell_after p (cell_before p earlier q) e
cell_used p earlier e q h = cell_before_more p earlier e q
    ∙ ap (λ z. cond z (cell_after p (cell_before p earlier q) e) (cell_before p earlier q)) h

pub cell_unused : (p : CodingParameters) (earlier : List Event) (e : Event) (q : ℕ) → uses_cell p q e ≡ false
    → cell_before p (earlier ++ e ∷ []) q ≡ cell_before p earlier q
cell_unused p earlier e q h = cell_before_more p earlier e q
    ∙ ap (λ z. cond z (cell_after p (cell_before p earlier q) e) (cell_before p earlier q)) h

-- RUNindex after a run of its component
pub index_before_more : (earlier : List Event) (e : Event) (k : ℕ)
    → run_index_before (earlier ++ e ∷ []) k
    ≡ cond (is_run_of k e) (run_index_after (run_index_before earlier k) e) (run_index_before earlier k)
unfolding run_index_before
index_before_more earlier e k = fold_passing run_index_after (is_run_of k) 0 earlier e

-- The cells of run interruption -----------------------------------------------------

-- a run cell after one event more is updated if the event uses it
pub run_cell_more : (p : CodingParameters) (earlier : List Event) (e : Event) (same : Bool)
    → run_cell_before p (earlier ++ e ∷ []) same
    ≡ cond (uses_run_cell same e) (run_cell_after p same (run_cell_before p earlier same) e) (run_cell_before p earlier same)
unfolding run_cell_before
run_cell_more p earlier e same = fold_passing (run_cell_after p same) (uses_run_cell same) (initial_run_cell p) earlier e

-- an interrupting sample changes the cell of its RItype
pub run_cell_learned : (p : CodingParameters) (earlier : List Event) (k c : ℕ) (near : Neighbours) (s : ℕ) (same : Bool) (cell : RunCell)
    → cell ≡ run_cell_before p earlier same
    → (x : RunCell) → x ≡ cond (equal same (is_same near)) (run_updated p.reset same cell (interruption_error p near s)) cell
    → x ≡ run_cell_before p (earlier ++ interrupted_run k c near s ∷ []) same
run_cell_learned p earlier k c near s same cell h x e =
    e ∙ ap (λ z. cond (equal same (is_same near)) (run_updated p.reset same z (interruption_error p near s)) z) h
    ∙ sym (run_cell_more p earlier (interrupted_run k c near s) same)

-- RUNindex ------------------------------------------------------------------------

-- RUNindex after a run to the end is that of its full blocks
pub index_end : (earlier : List Event) (k count r : ℕ) → r ≡ run_index_before earlier k → (x : ℕ) → x ≡ (blocks r count).run_index
    → x ≡ run_index_before (earlier ++ run_to_end k count ∷ []) k
index_end earlier k count r h x e =
    let t : is_run_of k (run_to_end k count) ≡ true = eq-eqb k k refl in
    e ∙ ap (λ z. (blocks z count).run_index) h
    ∙ sym (index_before_more earlier (run_to_end k count) k
    ∙ ap (λ z. cond z (run_index_after (run_index_before earlier k) (run_to_end k count)) (run_index_before earlier k)) t)

-- RUNindex after an interrupted run is that of its full blocks, lowered
pub index_interrupted : (earlier : List Event) (k count : ℕ) (near : Neighbours) (s r : ℕ) → r ≡ run_index_before earlier k → (x : ℕ)
    → x ≡ run_index_lowered (blocks r count).run_index → x ≡ run_index_before (earlier ++ interrupted_run k count near s ∷ []) k
index_interrupted earlier k count near s r h x e =
    let t : is_run_of k (interrupted_run k count near s) ≡ true = eq-eqb k k refl in
    e ∙ ap (λ z. run_index_lowered (blocks z count).run_index) h
    ∙ sym (index_before_more earlier (interrupted_run k count near s) k
    ∙ ap (λ z. cond z (run_index_after (run_index_before earlier k) (interrupted_run k count near s)) (run_index_before earlier k)) t)

-- events of another component leave it
pub index_other : (earlier : List Event) (e : Event) (k r : ℕ) → is_run_of k e ≡ false → r ≡ run_index_before earlier k
    → r ≡ run_index_before (earlier ++ e ∷ []) k
index_other earlier e k r f h =
    h ∙ sym (index_before_more earlier e k
    ∙ ap (λ z. cond z (run_index_after (run_index_before earlier k) e) (run_index_before earlier k)) f)
