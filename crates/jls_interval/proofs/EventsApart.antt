-- After the same earlier events no event's bits begin another's.
use Rattle.std.proofs.Common.{◌≡◌, ℕ, zero, suc, ◌+◌, ◌-◌, ◌*◌, ◌/◌, ◌%◌, ◌^◌, ◌<◌, ◌≤◌, Bool, true, false, cond, not, ◌&&◌, ◌||◌, ltb, leb}
use Rattle.std.proofs.Common.{List, [], ◌∷◌, ◌++◌, length, get_or, replicate, max, refl, sym, ap, ◌∙◌, subst, arith, inl, inr, append_assoc}
use Rattle.std.specs.Prelude.{◌==◌, ℤ, unsigned_abs, pos, negsuc, ◌-ℤ◌, int_lt}
use Rattle.std.specs.List.{AllByRecursion}
use Rattle.std.proofs.lemmas.Int.{ints}
use Rattle.std.proofs.lemmas.Nat.{shr_le}
use Rattle.std.proofs.lemmas.List.{get_or-append-add, get_or-replicate, append-nil}
use Rattle.std.proofs.lemmas.Bool.{cases_Bool, ltb-false, le-leb, and_from, cases_lt, eqb-true, le-ltb, lt-ltb, lt-leb}
use Rattle.jls_values.specs.Params.{AreCodingParameters, range, qbpp, limit}
use Rattle.jls_values.specs.Params.{CodingParameters}
use Rattle.jls_context.specs.Errors.{IsError, modulo_reduced, prediction_error, error_mapped}
use Rattle.jls_context.specs.Mode.{is_run_mode, is_negative, context}
use Rattle.jls_context.specs.Prediction.{clamped_prediction, corrected_prediction}
use Rattle.jls_context.specs.Regular.{uses_special_mapping, regular_k}
use Rattle.jls_context.specs.Interruption.{run_k, interruption_map, interruption_mapped, one_if, map_by_sign, maps_positive, mapped_by_sign}
use Rattle.jls_context.specs.declared.mode.Neighbours.{Neighbours}
use Rattle.jls_context.specs.declared.regular.Cell.{Cell}
use Rattle.jls_context.specs.declared.interruption.RunCell.{RunCell}
use Rattle.jls_bits.specs.Bits.{bits}
use Rattle.jls_bits.specs.Golomb.{golomb, has_golomb}
use Rattle.jls_interval.specs.Events.{Event, regular, run_to_end, interrupted_run, Above, neighbours, above, line_back}
use Rattle.jls_interval.specs.Cells.{regular_prediction, interruption_error, is_same, cell_before, run_cell_before}
use Rattle.jls_interval.specs.Runs.{run_order, Blocks, blocks, run_index_before}
use Rattle.jls_interval.specs.Code.{regular_bits, event_bits, interrupting_bits}
use Rattle.jls_interval.specs.Growth.{Fits, interval_steps}
use Rattle.jls_interval.specs.Stepwise.{IsPrefixFree}
use Rattle.jls_interval.specs.Code.{interrupted_run_bits}
use Rattle.jls_interval.proofs.Golomb.{golomb_same}
use Rattle.jls_context.proofs.Samples.{error_range, sample_same}
use Rattle.jls_context.proofs.Remainders.{modulo_reduced_is, modulo_reduced_near}
use Rattle.jls_context.proofs.Sizes.{maxval_small, range-le-pow, error_mapped_at_most, interruption_mapped_at_most}
use Rattle.jls_interval.proofs.MappedErrors.{mapped_same, interruption_mapped_same}
use Rattle.jls_interval.proofs.Runs.{run_index_before_small, run_apart, run_same}

-- a number up to 2^q has a code where the escape isn't empty
pub has_from : (k g q m : ℕ) → q + 2 ≤ g → m ≤ 2 ^ q → has_golomb k g q m ≡ true
has_from k g q m h j =
    elim (cases_Bool (ltb (m / 2 ^ k) (g - q - 1))) [
      | inl e ↦ rw e refl
      | inr e ↦ (let l = ltb-false _ _ e in let s = shr_le m k in
          rw e (and_from (leb 1 m) (leb m (2 ^ q)) (le-leb _ _ (omega arith)) (le-leb _ _ j)))
    ]

-- the limit after J bits has room for an escape
pub limit_room : (p : CodingParameters) (j : ℕ) → j ≤ 15 → qbpp p + 2 ≤ limit p - j - 1
limit_room p j h = generic (qbpp p)
  where
    generic : (q : ℕ) → q + 2 ≤ 2 * (max 2 q + max 8 (max 2 q)) - j - 1
    generic q = omega arith

-- an element of a list of small numbers
pub small_get : (xs : List ℕ) (i m : ℕ) → AllByRecursion (λ s. s ≤ m) xs → get_or xs i 0 ≤ m
small_get [] i m h = omega arith
small_get (x ∷ xs) zero m h = h.0
small_get (x ∷ xs) (suc i) m h = small_get xs i m h.1

pub j_small : (r : ℕ) → run_order r ≤ 15
j_small r = small_get (0 ∷ 0 ∷ 0 ∷ 0 ∷ 1 ∷ 1 ∷ 1 ∷ 1 ∷ 2 ∷ 2 ∷ 2 ∷ 2 ∷ 3 ∷ 3 ∷ 3 ∷ 3 ∷ 4 ∷ 4 ∷ 5 ∷ 5 ∷ 6 ∷ 6 ∷ 7 ∷ 7 ∷ 8 ∷ 9 ∷ 10 ∷ 11 ∷ 12
    ∷ 13 ∷ 14 ∷ 15 ∷ []) r 15 (omega arith)

pub clamped_small : (p : CodingParameters) (z : ℤ) → clamped_prediction p z ≤ p.maxval
clamped_small p (pos n) = omega arith
clamped_small p (negsuc n) = omega arith

pub predicted_small : (p : CodingParameters) (cell : Cell) (near : Neighbours) → regular_prediction p cell near ≤ p.maxval
unfolding corrected_prediction
predicted_small p cell near = clamped_small p _

-- the number of a sample in regular mode gives the sample
pub regular_same : (p : CodingParameters) (cell : Cell) (near : Neighbours) (s s' : ℕ) (t u : List Bool) → range p ≤ 2 ^ qbpp p
    → s ≤ p.maxval → s' ≤ p.maxval
    → regular_bits p cell near s ++ t ≡ regular_bits p cell near s' ++ u → s ≡ s'
regular_same p cell near s s' t u r a b e =
    let neg = is_negative p near in let x = regular_prediction p cell near in let xs : x ≤ p.maxval = predicted_small p cell near in
    let v = prediction_error p neg s x in let v' = prediction_error p neg s' x in
    let m = error_mapped_at_most p (uses_special_mapping cell) v (error_range p neg s x) in
    let m' = error_mapped_at_most p (uses_special_mapping cell) v' (error_range p neg s' x) in
    let room = limit_room p 0 (omega arith) in
    let h = golomb_same (regular_k cell) (limit p) (qbpp p) (error_mapped (uses_special_mapping cell) v)
    (error_mapped (uses_special_mapping cell) v') t u
    (has_from (regular_k cell) (limit p) (qbpp p) (error_mapped (uses_special_mapping cell) v) (omega arith) (omega arith))
    (has_from (regular_k cell) (limit p) (qbpp p) (error_mapped (uses_special_mapping cell) v') (omega arith) (omega arith)) e in
    sample_same p neg s s' x a b xs (mapped_same (uses_special_mapping cell) v v' h.0)

-- the sign decides the map
pub run_map_is : (same : Bool) (cell : RunCell) (e : ℤ)
    → interruption_map same cell e ≡ map_by_sign (maps_positive same cell) e
run_map_is same cell e =
    parts (run_k same cell == 0) (ltb (2 * cell.negative_errors) cell.occurrences) (leb cell.occurrences (2 * cell.negative_errors))
    (int_lt (pos 0) e) (int_lt e (pos 0)) (opposite (2 * cell.negative_errors) cell.occurrences) (apart e)
  where
    opposite : (a b : ℕ) → leb b a ≡ not (ltb a b)
    opposite a b = elim (cases_lt a b)
        [ inl h ↦ (let t = lt-ltb a b h in let u = lt-leb b a h in cc) | inr h ↦ (let t = le-ltb a b h in let u = le-leb b a h in cc) ]

    apart : (e : ℤ) → (int_lt (pos 0) e && int_lt e (pos 0)) ≡ false
    apart (pos zero) = refl
    apart (pos (suc n)) = let t : ltb (suc n) 0 ≡ false = le-ltb (suc n) 0 (omega arith) in rw t (and_false (ltb 0 (suc n)))
      where
        and_false : (b : Bool) → (b && false) ≡ false
        and_false true = refl
        and_false false = refl
    apart (negsuc n) = refl

    parts : (z l m a b : Bool) → m ≡ not l → (a && b) ≡ false
        → ((z && a && l) || (b && m) || (b && not z)) ≡ cond a (z && l) (cond b (not (z && l)) false)
    parts z l m true true h j = cc
    parts true true m true false h j = refl
    parts true false m true false h j = refl
    parts false true m true false h j = refl
    parts false false m true false h j = refl
    parts true true m false true h j = rw h refl
    parts true false m false true h j = rw h refl
    parts false true m false true h j = rw h refl
    parts false false m false true h j = rw h refl
    parts true l m false false h j = refl
    parts false l m false false h j = refl

-- the value of a run before its interrupting sample
pub run_value : (w : ℕ) (up : Above) (line : List ℕ) (count : ℕ)
    → (neighbours w up (line ++ replicate count (neighbours w up line (length line)).ra) (length line + count)).ra
    ≡ (neighbours w up line (length line)).ra
run_value w up line zero = ap (λ z. (neighbours w up z (length line + 0)).ra) (append-nil line)
    ∙ ap (λ z. (neighbours w up line z).ra) (let e : length line + 0 ≡ length line = omega arith in e)
run_value w up line (suc c) =
    let v = (neighbours w up line (length line)).ra in
    let step : length line + suc c ≡ suc (length line + c) = omega arith in
    ap (λ z. (neighbours w up (line ++ replicate (suc c) v) z).ra) step ∙ get_or-append-add line (replicate (suc c) v) c 0
    ∙ get_or-replicate (suc c) c v 0 (omega arith)

-- a sample that is predicted right has the error 0
pub same_is : (p : CodingParameters) (x : ℕ) → prediction_error p false x x ≡ pos 0
same_is p x =
    let z : pos x -ℤ pos x ≡ pos 0 = omega (arith, ints) in
    let r = modulo_reduced_near p (pos 0) (omega (arith, ints)) (omega (arith, ints)) in let b = modulo_reduced_is p (pos 0) in
    ap (modulo_reduced p) z ∙ (let range : IsError p (modulo_reduced p (pos 0)) = b.is_error in omega (arith, ints))

-- an interrupting sample of RItype 1 has an error
pub no_zero : (p : CodingParameters) (near : Neighbours) → near.rb ≤ p.maxval → (s : ℕ) → s ≤ p.maxval → (s ≡ near.ra → ⊥)
    → is_same near ≡ true → interruption_error p near s ≡ pos 0 → ⊥
no_zero p near x s a n i z =
    let ab : near.ra ≡ near.rb = eqb-true near.ra near.rb i in
    let neg : ltb near.rb near.ra ≡ false = le-ltb near.rb near.ra (omega arith) in
    let q : interruption_error p near s ≡ prediction_error p false s near.rb = ap (λ d. prediction_error p d s near.rb) neg in
    let d : s ≡ near.rb = sample_same p false s near.rb near.rb a x x (sym q ∙ z ∙ sym (same_is p near.rb)) in n (omega arith)

-- the number of an interrupting sample gives the sample
pub interrupting_same : (p : CodingParameters) (run : Blocks) (cell : RunCell) (near : Neighbours) (g s s' : ℕ) (t u : List Bool)
    → range p ≤ 2 ^ qbpp p → qbpp p + 2 ≤ g → near.rb ≤ p.maxval → s ≤ p.maxval → s' ≤ p.maxval
    → (s ≡ near.ra → ⊥) → (s' ≡ near.ra → ⊥)
    → golomb (run_k (is_same near) cell) g (qbpp p) (interruption_mapped (is_same near) cell (interruption_error p near s)) ++ t
    ≡ golomb (run_k (is_same near) cell) g (qbpp p) (interruption_mapped (is_same near) cell (interruption_error p near s')) ++ u
    → (s ≡ s') × (t ≡ u)
interrupting_same p run cell near g s s' t u r room x a b na nb e =
    let neg = ltb near.rb near.ra in let same = is_same near in let turn = maps_positive same cell in
    let v = interruption_error p near s in let v' = interruption_error p near s' in
    let m : interruption_mapped same cell v ≡ mapped_by_sign same turn v =
    ap (λ z. 2 * unsigned_abs v - one_if same - one_if z) (run_map_is same cell v) in
    let m' : interruption_mapped same cell v' ≡ mapped_by_sign same turn v' =
    ap (λ z. 2 * unsigned_abs v' - one_if same - one_if z) (run_map_is same cell v') in
    let l = interruption_mapped_at_most p same cell v (error_range p neg s near.rb) in
    let l' = interruption_mapped_at_most p same cell v' (error_range p neg s' near.rb) in
    let h = golomb_same (run_k same cell) g (qbpp p) (interruption_mapped same cell v) (interruption_mapped same cell v') t u
    (has_from (run_k same cell) g (qbpp p) (interruption_mapped same cell v) room (omega arith))
    (has_from (run_k same cell) g (qbpp p) (interruption_mapped same cell v') room (omega arith)) e in (
      sample_same p neg s s' near.rb a b x
          (interruption_mapped_same same turn v v' (λ i. (no_zero p near x s a na i, no_zero p near x s' b nb i)) (sym m ∙ h.0 ∙ m')),
      h.1,
    )

-- the line above has small samples
small_lines : (p : CodingParameters) (lines : List (List ℕ)) (i : ℕ) → AllByRecursion (λ l. AllByRecursion (λ s. s ≤ p.maxval) l) lines
    → AllByRecursion (λ s. s ≤ p.maxval) (get_or lines i [])
small_lines p [] i h = tt
small_lines p (l ∷ ls) zero h = h.0
small_lines p (l ∷ ls) (suc i) h = small_lines p ls i h.1

pub small_back : (p : CodingParameters) (lines : List (List ℕ)) (back : ℕ)
    → AllByRecursion (λ l. AllByRecursion (λ s. s ≤ p.maxval) l) lines → AllByRecursion (λ s. s ≤ p.maxval) (line_back lines back)
small_back p lines back h =
    elim (cases_Bool (ltb (length lines) back)) [ inl e ↦ rw e tt | inr e ↦ rw e (small_lines p lines (length lines - back) h) ]

pub b_small : (p : CodingParameters) (w : ℕ) (up : Above) (line : List ℕ) (x : ℕ) → AllByRecursion (λ s. s ≤ p.maxval) up.line_above
    → (neighbours w up line x).rb ≤ p.maxval
b_small p w up line zero h = small_get up.line_above 0 p.maxval h
b_small p w up line (suc x) h = small_get up.line_above (suc x) p.maxval h

regular_event : (n n' : Neighbours) (s s' : ℕ) → n ≡ n' → s ≡ s' → regular n s ≡ regular n' s'
regular_event n n' s s' a b = cc

interrupted_event : (k k' c c' : ℕ) (n n' : Neighbours) (s s' : ℕ) → k ≡ k' → c ≡ c' → n ≡ n' → s ≡ s'
    → interrupted_run k c n s ≡ interrupted_run k' c' n' s'
interrupted_event k k' c c' n n' s s' x y z u = cc

to_end_event : (k k' c c' : ℕ) → k ≡ k' → c ≡ c' → run_to_end k c ≡ run_to_end k' c'
to_end_event k k' c c' x y = cc

pub true_false : (b : Bool) → b ≡ true → b ≡ false → ⊥
true_false b h j = cc

module _ (p : CodingParameters) (wide : range p ≤ 2 ^ qbpp p) (w k : ℕ) (up : Above)
    (above_small : AllByRecursion (λ s. s ≤ p.maxval) up.line_above) (line : List ℕ) (earlier : List Event) where
  abbrev now : Neighbours
  now = neighbours w up line (length line)

  abbrev Possible : Event → Type 0
  Possible e = Fits p w k up line now e

  -- the bits of a run that is interrupted, with what follows them
  pub broken_is : (c : ℕ) (n : Neighbours) (s : ℕ) (t : List Bool) → event_bits p earlier (interrupted_run k c n s) ++ t
      ≡ interrupted_run_bits (blocks (run_index_before earlier k) c)
      (interrupting_bits p (run_cell_before p earlier (is_same n)) n (run_order (blocks (run_index_before earlier k) c).run_index) s ++ t)
  unfolding event_bits
  broken_is c n s t =
      let run = blocks (run_index_before earlier k) c in
      append_assoc (replicate run.full_blocks true ++ false ∷ bits (run_order run.run_index) run.remaining)
      (interrupting_bits p (run_cell_before p earlier (is_same n)) n (run_order run.run_index) s) t

  regular_case : (s s' : ℕ) (t u : List Bool) → s ≤ p.maxval → s' ≤ p.maxval
      → event_bits p earlier (regular now s) ++ t ≡ event_bits p earlier (regular now s') ++ u → s ≡ s'
  unfolding event_bits
  regular_case s s' t u a b e = regular_same p (cell_before p earlier (context p now)) now s s' t u wide a b e

  -- an interrupted run and a run to the end do not begin the same bits
  apart_case : (c n' : ℕ) (n : Neighbours) (s : ℕ) (t u : List Bool) → c < n'
      → event_bits p earlier (interrupted_run k c n s) ++ t ≡ event_bits p earlier (run_to_end k n') ++ u → ⊥
  unfolding event_bits
  apart_case c n' n s t u h e = run_apart c (run_index_before earlier k) c n' _ u (run_index_before_small earlier k) (omega arith) h
      (sym (broken_is c n s t) ∙ e)

  -- two interrupted runs whose bits begin alike have as many columns, and are interrupted by the same sample
  broken_case : (c c' : ℕ) (n n' : Neighbours) (s s' : ℕ) (t u : List Bool) → Possible (interrupted_run k c n s)
      → Possible (interrupted_run k c' n' s')
      → event_bits p earlier (interrupted_run k c n s) ++ t ≡ event_bits p earlier (interrupted_run k c' n' s') ++ u → (c ≡ c') × (s ≡ s')
  broken_case c c' n n' s s' t u h j e =
      let r = run_same c (run_index_before earlier k) c c' _ _ (run_index_before_small earlier k) (omega arith)
      (sym (broken_is c n s t) ∙ e ∙ broken_is c' n' s' u) in
      let nn : n' ≡ n = j.3 ∙ ap (λ z. neighbours w up (line ++ replicate z now.ra) (length line + z)) (sym r.0) ∙ sym h.3 in
      let run = blocks (run_index_before earlier k) c in
      let run_is : blocks (run_index_before earlier k) c' ≡ run = ap (blocks (run_index_before earlier k)) (sym r.0) in
      let na : n.ra ≡ now.ra = ap (λ (z : Neighbours). z.ra) h.3 ∙ run_value w up line c in
      let bs : n.rb ≤ p.maxval = subst (λ (z : Neighbours). z.rb ≤ p.maxval) (sym h.3)
      (b_small p w up (line ++ replicate c now.ra) (length line + c) above_small) in
      let other : interrupting_bits p (run_cell_before p earlier (is_same n')) n'
      (run_order (blocks (run_index_before earlier k) c').run_index) s' ++ u
      ≡ interrupting_bits p (run_cell_before p earlier (is_same n)) n (run_order run.run_index) s' ++ u =
      ap (λ (z : Neighbours). interrupting_bits p (run_cell_before p earlier (is_same z)) z
      (run_order (blocks (run_index_before earlier k) c').run_index) s' ++ u) nn
      ∙ ap (λ (z : Blocks). interrupting_bits p (run_cell_before p earlier (is_same n)) n (run_order z.run_index) s' ++ u) run_is in (
        r.0,
        (interrupting_same p run (run_cell_before p earlier (is_same n)) n (limit p - run_order run.run_index - 1) s s' t u wide
            (limit_room p (run_order run.run_index) (j_small run.run_index)) bs h.4 j.4 (λ q. h.5 (q ∙ na)) (λ q. j.5 (q ∙ na))
            (r.1 ∙ other)).0,
      )

  pub cases : (e f : Event) (t u : List Bool) → Possible e → Possible f → event_bits p earlier e ++ t ≡ event_bits p earlier f ++ u → e ≡ f
  cases (regular n s) (regular n' s') t u h j e =
      regular_event n n' s s' (h.1 ∙ sym j.1)
      (regular_case s s' t u h.2 j.2
      (subst (λ z. event_bits p earlier (regular z s) ++ t ≡ event_bits p earlier (regular now s') ++ u) h.1
      (subst (λ z. event_bits p earlier (regular n s) ++ t ≡ event_bits p earlier (regular z s') ++ u) j.1 e)))
  cases (regular n s) (run_to_end k' c) t u h j e = absurd (true_false (is_run_mode now) j.0 h.0)
  cases (regular n s) (interrupted_run k' c n' s') t u h j e = absurd (true_false (is_run_mode now) j.0 h.0)
  cases (run_to_end k' c) (regular n s) t u h j e = absurd (true_false (is_run_mode now) h.0 j.0)
  cases (interrupted_run k' c n s) (regular n' s') t u h j e = absurd (true_false (is_run_mode now) h.0 j.0)
  cases (run_to_end k' c) (run_to_end k'' c') t u h j e = let a = h.2 in let b = j.2 in
      to_end_event k' k'' c c' (h.1 ∙ sym j.1) (omega arith)
  cases (run_to_end k' c) (interrupted_run k'' c' n s) t u h j e =
      let a = h.2 in let b = j.2 in absurd
      (apart_case c' c n s u t (omega arith)
      (subst (λ z. event_bits p earlier (interrupted_run z c' n s) ++ u ≡ event_bits p earlier (run_to_end k c) ++ t) j.1
      (subst (λ z. event_bits p earlier (interrupted_run k'' c' n s) ++ u ≡ event_bits p earlier (run_to_end z c) ++ t) h.1 (sym e))))
  cases (interrupted_run k'' c' n s) (run_to_end k' c) t u h j e =
      let a = h.2 in let b = j.2 in absurd
      (apart_case c' c n s t u (omega arith)
      (subst (λ z. event_bits p earlier (interrupted_run z c' n s) ++ t ≡ event_bits p earlier (run_to_end k c) ++ u) h.1
      (subst (λ z. event_bits p earlier (interrupted_run k'' c' n s) ++ t ≡ event_bits p earlier (run_to_end z c) ++ u) j.1 e)))
  cases (interrupted_run k' c n s) (interrupted_run k'' c' n' s') t u h j e =
      let h' : Possible (interrupted_run k c n s) = (h.0, refl, h.2, h.3, h.4, h.5) in
      let j' : Possible (interrupted_run k c' n' s') = (j.0, refl, j.2, j.3, j.4, j.5) in
      let b = broken_case c c' n n' s s' t u h' j'
      (subst (λ z. event_bits p earlier (interrupted_run z c n s) ++ t ≡ event_bits p earlier (interrupted_run k c' n' s') ++ u) h.1
      (subst (λ z. event_bits p earlier (interrupted_run k' c n s) ++ t ≡ event_bits p earlier (interrupted_run z c' n' s') ++ u) j.1
      e)) in
      interrupted_event k' k'' c c' n n' s s' (h.1 ∙ sym j.1) b.0
      (h.3 ∙ ap (λ z. neighbours w up (line ++ replicate z now.ra) (length line + z)) b.0 ∙ sym j.3) b.1

-- no event's bits begin another's, after the same earlier events
pub events_apart : (p : CodingParameters) (width components count : ℕ) → AreCodingParameters p
    → IsPrefixFree (interval_steps p width components count)
events_apart p width components count ok s e f t u sound a b eq =
    cases p (range-le-pow p (maxval_small p ok)) width (length s.lines % components) (above components s.lines)
    (small_back p s.lines components sound.0) s.line s.earlier e f t u a.1 b.1 eq
