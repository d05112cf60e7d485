-- One event more: what a coder carries is what the earlier events and that one leave.
use Rattle.std.proofs.Common.{◌≡◌, ℕ, ◌<◌, ◌≤◌, Bool, true, false, cond, not, List, [], ◌∷◌, ◌++◌, length, get_or, set, replicate, zero}
use Rattle.std.proofs.Common.{suc, refl, sym, ap, ◌∙◌, subst, inl, inr}
use Rattle.std.specs.Prelude.{ℤ}
use Rattle.std.proofs.lemmas.List.{get_or-set_same, get_or-set_other}
use Rattle.std.proofs.lemmas.Bool.{cases_eq, eq-eqb, ne_eqb}
use Rattle.jls_values.specs.Params.{CodingParameters}
use Rattle.jls_context.specs.declared.mode.Neighbours.{Neighbours}
use Rattle.jls_context.specs.declared.regular.Cell.{Cell}
use Rattle.jls_context.specs.Mode.{context}
use Rattle.jls_context.specs.Regular.{updated, initial_cell}
use Rattle.jls_context.specs.Interruption.{run_updated}
use Rattle.jls_context.specs.Variables.{Variables, cell_at, run_cell_at, initial_variables}
use Rattle.jls_interval.specs.Events.{Event, regular, run_to_end, interrupted_run}
use Rattle.jls_interval.specs.Cells.{regular_error, cell_before, run_cell_before, is_same, interruption_error, equal}
use Rattle.jls_interval.specs.Runs.{blocks, is_run_of, run_index_before, run_index_lowered}
use Rattle.jls_interval.specs.Code.{regular_bits, event_bits}
use Rattle.jls_interval.specs.Reading.{NoSample}
use Rattle.jls_interval.specs.After.{IsAfter}
use Rattle.jls_interval.proofs.FoldedEvents.{cell_used, cell_unused, run_cell_more, run_cell_learned, index_end, index_interrupted}
use Rattle.jls_interval.proofs.FoldedEvents.{index_other}

-- the other variables leave a cell as it was
pub cell_kept : (cells cells' : Variables) → cells'.regular ≡ cells.regular → cells'.parameters ≡ cells.parameters → (q : ℕ)
    → cell_at cells' q ≡ cell_at cells q
unfolding cell_at
cell_kept cells cells' a b q = ap (λ z. get_or z q (initial_cell cells'.parameters)) a ∙ ap (λ z. get_or cells.regular q (initial_cell z)) b

-- the cell of the sample's RItype is changed, the other isn't
run_cell_new : (cells cells' : Variables) (reset : ℕ) (error : ℤ) (same b : Bool)
    → run_cell_at cells' same ≡ run_updated reset same (run_cell_at cells same) error
    → run_cell_at cells' (not same) ≡ run_cell_at cells (not same)
    → run_cell_at cells' b ≡ cond (equal b same) (run_updated reset b (run_cell_at cells b) error) (run_cell_at cells b)
run_cell_new cells cells' reset error true true a o = a
run_cell_new cells cells' reset error true false a o = o
run_cell_new cells cells' reset error false true a o = o
run_cell_new cells cells' reset error false false a o = a

pub get_same : {X : Type 0} (n : ℕ) (x : X) (i : ℕ) → get_or (replicate n x) i x ≡ x
get_same zero x i = refl
get_same (suc n) x zero = refl
get_same (suc n) x (suc i) = get_same n x i

-- before the first event
pub after_none : (p : CodingParameters) (cells : Variables) (run_indices : List ℕ) → cells ≡ initial_variables p
    → ((component : ℕ) → get_or run_indices component 0 ≡ 0) → IsAfter p cells run_indices []
unfolding cell_at cell_before run_cell_before run_index_before
after_none p cells run_indices e zeros = record {
  parameters = ap (λ (z : Variables). z.parameters) e;
  regular_cells = λ context. ap (λ (z : Variables). cell_at z context) e ∙ get_same 365 (initial_cell p) context;
  run_cells = λ same. ap (λ (z : Variables). run_cell_at z same) e ∙ first_run same;
  run_indices_are = zeros;
}
  where
    first_run : (same : Bool) → run_cell_at (initial_variables p) same ≡ run_cell_before p [] same
    first_run true = refl
    first_run false = refl

module _ (p : CodingParameters) (cells : Variables) (run_indices : List ℕ) (earlier : List Event) (t : IsAfter p cells run_indices earlier)
  where
    -- RUNindex of each component after a run of one
    indices_after : (e : Event) (k r : ℕ) → k < length run_indices → ((j : ℕ) → (j ≡ k → ⊥) → is_run_of j e ≡ false)
        → r ≡ run_index_before (earlier ++ e ∷ []) k
        → (j : ℕ) → get_or (set run_indices k r) j 0 ≡ run_index_before (earlier ++ e ∷ []) j
    indices_after e k r within others own j =
        elim (cases_eq j k) [
          | inl s ↦ ap (λ z. get_or (set run_indices k r) z 0) s ∙ get_or-set_same run_indices k r 0 within ∙ own
              ∙ ap (run_index_before (earlier ++ e ∷ [])) (sym s)
          | inr n ↦ get_or-set_other run_indices k j r 0 n
              ∙ index_other earlier e j (get_or run_indices j 0) (others j n) (t.run_indices_are j)
        ]

    -- no sample of regular mode stands at the start
    pub sample_missing : (near : Neighbours) (given : List Bool) → NoSample p (cell_at cells (context p near)) near given
        → (s : ℕ) (rest : List Bool) → s ≤ p.maxval → given ≡ event_bits p earlier (regular near s) ++ rest → ⊥
    unfolding event_bits
    sample_missing near given none s rest l e =
        none s rest l (e ∙ ap (λ (z : Cell). regular_bits p z near s ++ rest) (sym (t.regular_cells (context p near))))

    -- the bits of one that does
    pub sample_bits : (near : Neighbours) (s : ℕ)
        → event_bits p earlier (regular near s) ≡ regular_bits p (cell_at cells (context p near)) near s
    unfolding event_bits
    sample_bits near s = ap (λ (z : Cell). regular_bits p z near s) (sym (t.regular_cells (context p near)))

    module _ (near : Neighbours) (q : ℕ) (q_is : q ≡ context p near) (s : ℕ) (error : ℤ) (cells' : Variables)
        (parameters : cells'.parameters ≡ cells.parameters) (error_is : error ≡ regular_error p (cell_at cells q) near s)
        (changed : cell_at cells' q ≡ updated p.reset (cell_at cells q) error)
        (others : (other : ℕ) → (other ≡ q → ⊥) → cell_at cells' other ≡ cell_at cells other)
        (run_cells : (same : Bool) → run_cell_at cells' same ≡ run_cell_at cells same) where
      own_cell : cell_at cells' q ≡ cell_before p (earlier ++ regular near s ∷ []) q
      own_cell =
          changed ∙ ap (updated p.reset (cell_at cells q)) error_is
          ∙ ap (λ (z : Cell). updated p.reset z (regular_error p z near s)) (t.regular_cells q)
          ∙ sym (cell_used p earlier (regular near s) q (eq-eqb (context p near) q (sym q_is)))

      each_cell : (other : ℕ) → cell_at cells' other ≡ cell_before p (earlier ++ regular near s ∷ []) other
      each_cell other =
          elim (cases_eq other q) [
            | inl e ↦ subst (λ z. cell_at cells' z ≡ cell_before p (earlier ++ regular near s ∷ []) z) (sym e) own_cell
            | inr ne ↦ others other ne ∙ t.regular_cells other
                ∙ sym (cell_unused p earlier (regular near s) other (ne_eqb (context p near) other (λ o. ne (sym o ∙ sym q_is))))
          ]

      -- a sample of regular mode more
      pub after_regular : IsAfter p cells' run_indices (earlier ++ regular near s ∷ [])
      after_regular = record {
        parameters = parameters ∙ t.parameters;
        regular_cells = each_cell;
        run_cells = λ same. run_cells same ∙ t.run_cells same ∙ sym (run_cell_more p earlier (regular near s) same);
        run_indices_are = λ j. index_other earlier (regular near s) j (get_or run_indices j 0) refl (t.run_indices_are j);
      }

    module _ (k count : ℕ) (within : k < length run_indices) where
      -- a run to the end of its line more
      pub after_end : (r : ℕ) → r ≡ (blocks (get_or run_indices k 0) count).run_index
          → IsAfter p cells (set run_indices k r) (earlier ++ run_to_end k count ∷ [])
      after_end r e = record {
        parameters = t.parameters;
        regular_cells = λ q. t.regular_cells q ∙ sym (cell_unused p earlier (run_to_end k count) q refl);
        run_cells = λ same. t.run_cells same ∙ sym (run_cell_more p earlier (run_to_end k count) same);
        run_indices_are = indices_after (run_to_end k count) k r within (λ j ne. ne_eqb k j (λ o. ne (sym o)))
            (index_end earlier k count (get_or run_indices k 0) (t.run_indices_are k) r e);
      }

      -- an interrupted run more
      pub after_interruption : (near : Neighbours) (s r : ℕ) (same : Bool) (error : ℤ) (cells' : Variables)
          → r ≡ run_index_lowered (blocks (get_or run_indices k 0) count).run_index → same ≡ is_same near
          → error ≡ interruption_error p near s
          → cells'.regular ≡ cells.regular → cells'.parameters ≡ cells.parameters → run_cell_at cells' same
          ≡ run_updated p.reset same (run_cell_at cells same) error → run_cell_at cells' (not same) ≡ run_cell_at cells (not same)
          → IsAfter p cells' (set run_indices k r) (earlier ++ interrupted_run k count near s ∷ [])
      after_interruption near s r same error cells' r_is same_is error_is regular_cells parameters changed other = record {
        parameters = parameters ∙ t.parameters;
        regular_cells = λ q. cell_kept cells cells' regular_cells parameters q ∙ t.regular_cells q
            ∙ sym (cell_unused p earlier (interrupted_run k count near s) q refl);
        run_cells = λ x. run_cell_learned p earlier k count near s x (run_cell_at cells x) (t.run_cells x) (run_cell_at cells' x)
            (run_cell_new cells cells' p.reset error same x changed other
            ∙ ap (λ z. cond (equal x z) (run_updated p.reset x (run_cell_at cells x) error) (run_cell_at cells x)) same_is
            ∙ ap (λ z. cond (equal x (is_same near)) (run_updated p.reset x (run_cell_at cells x) z) (run_cell_at cells x)) error_is);
        run_indices_are = indices_after (interrupted_run k count near s) k r within (λ j ne. ne_eqb k j (λ o. ne (sym o)))
            (index_interrupted earlier k count near s (get_or run_indices k 0) (t.run_indices_are k) r r_is);
      }

-- equal variables and RUNindices are those after the same events
pub after_same : (p : CodingParameters) (cells cells' : Variables) (run_indices run_indices' : List ℕ) (earlier : List Event)
    → cells' ≡ cells → run_indices' ≡ run_indices → IsAfter p cells run_indices earlier → IsAfter p cells' run_indices' earlier
after_same p cells cells' run_indices run_indices' earlier a b h =
    subst (λ (z : Variables). IsAfter p z run_indices' earlier) (sym a) (subst (λ z. IsAfter p cells z earlier) (sym b) h)
