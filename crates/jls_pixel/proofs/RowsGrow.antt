-- Rows are parted into events that lead to them.
use Rattle.std.proofs.Common.{◌≡◌, ℕ, suc, ◌+◌, ◌<◌, Bool, true, false, eqb, List, [], ◌∷◌, ◌++◌, length, replicate, refl}
use Rattle.std.proofs.Common.{sym, ap, ◌∙◌, subst, arith, inl, inr, append_assoc, length-append}
use Rattle.std.specs.Prelude.{nat_eq}
use Rattle.std.specs.List.{AllByRecursion}
use Rattle.std.specs.Cmp.Lexicographic.{pointwise, same_text, other_text}
use Rattle.std.proofs.lemmas.List.{append-nil, replicate_more, length-replicate}
use Rattle.std.proofs.lemmas.Bool.{cases_Bool, eq-eqb, ne_eqb}
use Rattle.jls_values.specs.Params.{CodingParameters}
use Rattle.jls_context.specs.declared.mode.Neighbours.{Neighbours}
use Rattle.jls_interval.specs.Stepwise.{StepwiseCode, Leads}
use Rattle.jls_pixel.specs.Pixels.{IsPixel, IsRow, AreRows, rows_above, pixel_neighbours, is_run_pixel, run_value}
use Rattle.jls_pixel.specs.Events.{Event, regular_pixel, run_to_end, interrupted_run, events_from, events_after, events}
use Rattle.jls_pixel.specs.Growth.{Position, IsNext, grown, moved, pixel_steps, start, finish}
use Rattle.jls_pixel.proofs.PixelLists.{run_keeps}

pub grown_full : (w : ℕ) (rows : List (List (List ℕ))) (row : List (List ℕ)) (earlier : List Event) → length row ≡ w
    → grown w rows row earlier ≡ record { rows = rows ++ row ∷ []; row = []; earlier = earlier }
grown_full w rows row earlier h = let t : eqb (length row) w ≡ true = eq-eqb (length row) w h in rw t refl

pub grown_part : (w : ℕ) (rows : List (List (List ℕ))) (row : List (List ℕ)) (earlier : List Event) → length row < w
    → grown w rows row earlier ≡ record { rows = rows; row = row; earlier = earlier }
grown_part w rows row earlier h = let t : eqb (length row) w ≡ false = ne_eqb (length row) w (λ e. omega arith) in rw t refl

-- one list of events after another
pub leads_append : (m : StepwiseCode) (s z y : m.State) (es fs : List m.Event) → Leads m s es z → Leads m z fs y → Leads m s (es ++ fs) y
leads_append m s z y [] fs p q = subst (λ v. Leads m v fs y) (sym p) q
leads_append m s z y (e ∷ es) fs p q = (p.0, leads_append m (m.after s e) z y es fs p.1 q)

-- The events of a row -------------------------------------------------------------------------------

module _ (p : CodingParameters) (w c n : ℕ) (rows : List (List (List ℕ))) (unfinished : length rows < n) where
  abbrev m : StepwiseCode
  m = pixel_steps p w c n

  abbrev at : List (List ℕ) → List Event → Position
  at row earlier = record { rows = rows; row = row; earlier = earlier }

  abbrev to : List (List ℕ) → List Event → Position
  to row earlier = grown w rows row earlier

  abbrev near : List (List ℕ) → List Neighbours
  near row = pixel_neighbours w (rows_above rows) row c

  abbrev value : List (List ℕ) → List ℕ
  value row = run_value (near row)

  abbrev rest : List (List ℕ) → Bool → ℕ → List (List ℕ) → List Event
  rest row in_run count left = events_from w c (rows_above rows) row in_run count left

  -- what the events of the pixels left do, if no run goes on
  abbrev Free : List (List ℕ) → Type 0
  Free left =
      (row : List (List ℕ)) (earlier : List Event) → length row + length left ≡ w → AllByRecursion (IsPixel p c) left
      → Leads m (to row earlier) (rest row false 0 left) (to (row ++ left) (earlier ++ rest row false 0 left))

  -- the same if a run goes on that began after the pixels `first`
  abbrev InRun : List (List ℕ) → Type 0
  InRun left =
      (first row : List (List ℕ)) (count : ℕ) (earlier : List Event) → row ≡ first ++ replicate count (value first)
      → is_run_pixel (near first) ≡ true → length row + length left ≡ w → length first < w → AllByRecursion (IsPixel p c) left
      → Leads m (at first earlier) (rest row true count left) (to (row ++ left) (earlier ++ rest row true count left))

  -- an event, and then what leads on
  leads_cons : (s y : Position) (e : Event) (es : List Event) → IsNext p w c n s e → Leads m (moved w c s e) es y → Leads m s (e ∷ es) y
  leads_cons s y e es a b = (a, b)

  -- the first event leads to a place from which the others lead on
  step : (first row left : List (List ℕ)) (earlier : List Event) (e : Event) (es : List Event) (pixel : List ℕ)
      → IsNext p w c n (at first earlier) e
      → moved w c (at first earlier) e ≡ to (row ++ pixel ∷ []) (earlier ++ e ∷ [])
      → Leads m (to (row ++ pixel ∷ []) (earlier ++ e ∷ [])) es (to ((row ++ pixel ∷ []) ++ left) ((earlier ++ e ∷ []) ++ es))
      → Leads m (at first earlier) (e ∷ es) (to (row ++ pixel ∷ left) (earlier ++ e ∷ es))
  step first row left earlier e es pixel next is l =
      leads_cons (at first earlier) (to (row ++ pixel ∷ left) (earlier ++ e ∷ es)) e es next
      (subst (λ z. Leads m z es (to (row ++ pixel ∷ left) (earlier ++ e ∷ es))) (sym is)
      (subst (λ z. Leads m (to (row ++ pixel ∷ []) (earlier ++ e ∷ [])) es (to z (earlier ++ e ∷ es))) (append_assoc row (pixel ∷ []) left)
      (subst (λ z. Leads m (to (row ++ pixel ∷ []) (earlier ++ e ∷ [])) es (to ((row ++ pixel ∷ []) ++ left) z))
      (append_assoc earlier (e ∷ []) es) l)))

  -- the last run
  run_ends : InRun []
  unfolding events_from
  run_ends first row count earlier is run len short all =
      let e = run_to_end count in
      let la = ap length is in let lb = length-append first (replicate count (value first)) in
      let lc = length-replicate count (value first) in
      let moves : moved w c (at first earlier) e ≡ to (row ++ []) (earlier ++ e ∷ []) =
      ap (λ z. to z (earlier ++ e ∷ [])) (sym is ∙ sym (append-nil row)) in
      leads_cons (at first earlier) (to (row ++ []) (earlier ++ e ∷ [])) e [] (unfinished, (run, omega arith)) moves

  -- a pixel after a run that goes on
  in_run : (pixel : List ℕ) (left : List (List ℕ)) → Free left → InRun left → InRun (pixel ∷ left)
  unfolding events_from
  in_run pixel left free runs first row count earlier is run len short all =
      let v_is : value row ≡ value first = ap value is ∙ run_keeps w (rows_above rows) first c count in
      elim (cases_Bool (pointwise nat_eq pixel (value row))) [
        | inl h ↦ rw h (held h v_is)
        | inr h ↦ rw h (ended h v_is)
      ]
    where
      held : pointwise nat_eq pixel (value row) ≡ true → value row ≡ value first
          → Leads m (at first earlier) (rest (row ++ pixel ∷ []) true (suc count) left)
          (to (row ++ pixel ∷ left) (earlier ++ rest (row ++ pixel ∷ []) true (suc count) left))
      held h v_is =
          let same : pixel ≡ value first = same_text pixel (value row) (sym h) ∙ v_is in
          let one : count + 1 ≡ suc count = omega arith in
          let longer : row ++ pixel ∷ [] ≡ first ++ replicate (suc count) (value first) =
          ap (λ z. row ++ z ∷ []) same ∙ ap (λ z. z ++ value first ∷ []) is
          ∙ append_assoc first (replicate count (value first)) (value first ∷ [])
          ∙ ap (λ z. first ++ z) (replicate_more count (value first) ∙ ap (λ z. replicate z (value first)) one) in
          let la = length-append row (pixel ∷ []) in
          subst (λ z. Leads m (at first earlier) (rest (row ++ pixel ∷ []) true (suc count) left)
          (to z (earlier ++ rest (row ++ pixel ∷ []) true (suc count) left))) (append_assoc row (pixel ∷ []) left)
          (runs first (row ++ pixel ∷ []) (suc count) earlier longer run (omega arith) short all.1)

      ended : pointwise nat_eq pixel (value row) ≡ false → value row ≡ value first
          → Leads m (at first earlier) (interrupted_run count (near row) pixel ∷ rest (row ++ pixel ∷ []) false 0 left)
          (to (row ++ pixel ∷ left) (earlier ++ interrupted_run count (near row) pixel ∷ rest (row ++ pixel ∷ []) false 0 left))
      ended h v_is =
          let e = interrupted_run count (near row) pixel in
          let other : pixel ≡ value first → ⊥ = λ q. other_text pixel (value row) (sym h) (q ∙ sym v_is) in
          let la = ap length is in let lb = length-append first (replicate count (value first)) in
          let lc = length-replicate count (value first) in let ld = length-append row (pixel ∷ []) in
          let moves : moved w c (at first earlier) e ≡ to (row ++ pixel ∷ []) (earlier ++ e ∷ []) =
          ap (λ z. to z (earlier ++ e ∷ []))
          (sym (append_assoc first (replicate count (value first)) (pixel ∷ [])) ∙ ap (λ z. z ++ pixel ∷ []) (sym is)) in
          step first row left earlier e (rest (row ++ pixel ∷ []) false 0 left) pixel
          (unfinished, (run, omega arith, ap near is, all.0, other)) moves
          (free (row ++ pixel ∷ []) (earlier ++ e ∷ []) (omega arith) all.1)

  -- a pixel where no run goes on
  no_run : (pixel : List ℕ) (left : List (List ℕ)) → Free left → InRun (pixel ∷ left) → Free (pixel ∷ left)
  unfolding events_from
  no_run pixel left free runs row earlier len all =
      let short : length row < w = omega arith in
      subst (λ z. Leads m z (rest row false 0 (pixel ∷ left)) (to (row ++ pixel ∷ left) (earlier ++ rest row false 0 (pixel ∷ left))))
      (sym (grown_part w rows row earlier short))
      (elim (cases_Bool (is_run_pixel (near row))) [
        | inl h ↦ rw h (begun h short)
        | inr h ↦ rw h (alone h short)
      ])
    where
      begun : is_run_pixel (near row) ≡ true → length row < w
          → Leads m (at row earlier) (rest row true 0 (pixel ∷ left)) (to (row ++ pixel ∷ left) (earlier ++ rest row true 0 (pixel ∷ left)))
      begun h short = runs row row 0 earlier (sym (append-nil row)) h len short all

      alone : is_run_pixel (near row) ≡ false → length row < w
          → Leads m (at row earlier) (regular_pixel (near row) pixel ∷ rest (row ++ pixel ∷ []) false 0 left)
          (to (row ++ pixel ∷ left) (earlier ++ regular_pixel (near row) pixel ∷ rest (row ++ pixel ∷ []) false 0 left))
      alone h short =
          let e = regular_pixel (near row) pixel in let la = length-append row (pixel ∷ []) in
          step row row left earlier e (rest (row ++ pixel ∷ []) false 0 left) pixel (unfinished, (h, refl, all.0)) refl
          (free (row ++ pixel ∷ []) (earlier ++ e ∷ []) (omega arith) all.1)

  none_left : Free []
  unfolding events_from
  none_left row earlier len all = let a = append-nil row in let b = append-nil earlier in cc

  pub row_leads : (left : List (List ℕ)) → Free left × InRun left
  row_leads [] = (none_left, run_ends)
  row_leads (pixel ∷ left) =
      let r = row_leads left in let runs = in_run pixel left r.0 r.1 in (no_run pixel left r.0 runs, runs)

-- The events of all rows ----------------------------------------------------------------------------

module _ (p : CodingParameters) (w c n : ℕ) (some : 0 < w) where
  abbrev steps : StepwiseCode
  steps = pixel_steps p w c n

  abbrev before_row : List (List (List ℕ)) → List Event → Position
  before_row rows earlier = record { rows = rows; row = []; earlier = earlier }

  row_from_start : (before : List (List (List ℕ))) (row : List (List ℕ)) (earlier : List Event) → length before < n → IsRow p w c row
      → Leads steps (before_row before earlier) (events_from w c (rows_above before) [] false 0 row)
      (before_row (before ++ row ∷ []) (earlier ++ events_from w c (rows_above before) [] false 0 row))
  row_from_start before row earlier h is =
      let es = events_from w c (rows_above before) [] false 0 row in
      subst (λ z. Leads steps z es (before_row (before ++ row ∷ []) (earlier ++ es))) (grown_part w before [] earlier some)
      (subst (λ z. Leads steps (grown w before [] earlier) es z) (grown_full w before row (earlier ++ es) is.0)
      ((row_leads p w c n before h row).0 [] earlier (let l = is.0 in omega arith) is.1))

  rows_lead : (rows before : List (List (List ℕ))) (earlier : List Event) → length before + length rows ≡ n
      → AllByRecursion (IsRow p w c) rows
      → Leads steps (before_row before earlier) (events_after w c before rows)
      (before_row (before ++ rows) (earlier ++ events_after w c before rows))
  unfolding events_after
  rows_lead [] before earlier h all = let a = append-nil before in let b = append-nil earlier in cc
  rows_lead (row ∷ rows) before earlier h all =
      let es = events_from w c (rows_above before) [] false 0 row in
      let fs = events_after w c (before ++ row ∷ []) rows in
      let la = length-append before (row ∷ []) in
      let one = row_from_start before row earlier (omega arith) all.0 in
      let others = rows_lead rows (before ++ row ∷ []) (earlier ++ es) (omega arith) all.1 in
      let others' : Leads steps (before_row (before ++ row ∷ []) (earlier ++ es)) fs
      (before_row (before ++ row ∷ rows) (earlier ++ (es ++ fs))) =
      subst (λ z. Leads steps (before_row (before ++ row ∷ []) (earlier ++ es)) fs z)
      (place_same _ _ _ _ (append_assoc before (row ∷ []) rows) (append_assoc earlier es fs)) others in
      leads_append steps (before_row before earlier) (before_row (before ++ row ∷ []) (earlier ++ es))
      (before_row (before ++ row ∷ rows) (earlier ++ (es ++ fs))) es fs one others'
    where
      place_same : (a b : List (List (List ℕ))) (x y : List Event) → a ≡ b → x ≡ y → before_row a x ≡ before_row b y
      place_same a b x y e f = cc

  -- all rows grow from the start, event by event
  pub rows_grow : (rows : List (List (List ℕ))) → AreRows p w c n rows → Leads steps start (events w c rows) (finish w c rows)
  rows_grow rows are = let h = are.count_is in rows_lead rows [] [] (omega arith) are.each
