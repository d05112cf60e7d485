-- Where events lead from the start: what is read there, and the rows at the end.
use Rattle.std.proofs.Common.{◌≡◌, ℕ, zero, suc, ◌+◌, ◌-◌, ◌<◌, ◌≤◌, Bool, true, false, List, [], ◌∷◌, ◌++◌, length, replicate, refl}
use Rattle.std.proofs.Common.{sym, ap}
use Rattle.std.proofs.Common.{◌∙◌, subst, arith, inl, inr, append_assoc, length-append}
use Rattle.std.specs.Prelude.{nat_eq}
use Rattle.std.specs.List.{AllByRecursion}
use Rattle.std.specs.Cmp.Lexicographic.{pointwise, same_text, other_text}
use Rattle.std.proofs.lemmas.List.{append-nil, length-replicate, nil_from_length, replicate_more}
use Rattle.std.proofs.lemmas.Bool.{cases_Bool, cases_lt}
use Rattle.std.proofs.Math.Nat.{le_antisymm}
use Rattle.jls_values.specs.Params.{CodingParameters}
use Rattle.jls_context.specs.declared.mode.Neighbours.{Neighbours}
use Rattle.jls_interval.specs.Stepwise.{Leads, IsEnd}
use Rattle.jls_pixel.specs.Pixels.{IsPixel, IsRow, AreRows, RowsAbove, rows_above, pixel_neighbours, is_run_pixel, run_value}
use Rattle.jls_pixel.specs.Events.{Event, regular_pixel, run_to_end, interrupted_run, events_from, events_after, events}
use Rattle.jls_pixel.specs.Growth.{Position, here, added, Fits, IsNext, moved, HasPixels, pixel_steps, start, finish}
use Rattle.jls_pixel.proofs.PixelLists.{all_append, all_replicate, run_keeps, back_small, value_is_pixel}
use Rattle.jls_pixel.proofs.RowsGrow.{grown_full, grown_part}
use Rattle.jls_pixel.proofs.CodesApart.{added_pixels}

equal_text : (xs ys : List ℕ) → xs ≡ ys → pointwise nat_eq xs ys ≡ true
equal_text xs ys e = elim (cases_Bool (pointwise nat_eq xs ys)) [ inl h ↦ h | inr h ↦ absurd (other_text xs ys (sym h) e) ]

unequal_text : (xs ys : List ℕ) → (xs ≡ ys → ⊥) → pointwise nat_eq xs ys ≡ false
unequal_text xs ys n = elim (cases_Bool (pointwise nat_eq xs ys)) [ inl h ↦ absurd (n (same_text xs ys (sym h))) | inr h ↦ h ]

-- The first event of what is left of a row ----------------------------------------------------------

module _ (w c : ℕ) (up : RowsAbove) where
  abbrev near : List (List ℕ) → List Neighbours
  near row = pixel_neighbours w up row c

  abbrev value : List (List ℕ) → List ℕ
  value row = run_value (near row)

  abbrev rest : List (List ℕ) → Bool → ℕ → List (List ℕ) → List Event
  rest row in_run count left = events_from w c up row in_run count left

  -- a run that goes on over pixels of its value
  held : (first row : List (List ℕ)) (count n : ℕ) (left : List (List ℕ)) → row ≡ first ++ replicate count (value first)
      → rest row true count (replicate n (value first) ++ left) ≡ rest (row ++ replicate n (value first)) true (count + n) left
  unfolding events_from
  held first row count zero left is =
      let a : row ++ [] ≡ row = append-nil row in let b : count + 0 ≡ count = omega arith in
      ap (λ z. rest z true count left) (sym a) ∙ ap (λ z. rest (row ++ []) true z left) (sym b)
  held first row count (suc n) left is =
      let v = value first in
      let v_is : value row ≡ v = ap value is ∙ run_keeps w up first c count in
      let t : pointwise nat_eq v (value row) ≡ true = equal_text v (value row) (sym v_is) in
      let one : count + 1 ≡ suc count = omega arith in
      let longer : row ++ v ∷ [] ≡ first ++ replicate (suc count) v =
      ap (λ z. z ++ v ∷ []) is ∙ append_assoc first (replicate count v) (v ∷ [])
      ∙ ap (λ z. first ++ z) (replicate_more count v ∙ ap (λ z. replicate z v) one) in
      let sum : suc count + n ≡ count + suc n = omega arith in
      rw t (held first (row ++ v ∷ []) (suc count) n left longer
      ∙ ap (λ z. rest z true (suc count + n) left) (append_assoc row (v ∷ []) (replicate n v))
      ∙ ap (λ z. rest (row ++ replicate (suc n) v) true z left) sum)

  begun : (row left : List (List ℕ)) → 0 < length left → is_run_pixel (near row) ≡ true → rest row false 0 left ≡ rest row true 0 left
  unfolding events_from
  begun row [] some run = absurd (omega arith)
  begun row (x ∷ left) some run = rw run refl

  regular_first : (row : List (List ℕ)) (pixel : List ℕ) (left : List (List ℕ)) → is_run_pixel (near row) ≡ false
      → rest row false 0 (pixel ∷ left) ≡ regular_pixel (near row) pixel ∷ rest (row ++ pixel ∷ []) false 0 left
  unfolding events_from
  regular_first row pixel left h = rw h refl

  none_after : (row : List (List ℕ)) (count : ℕ) → (rest row true count [] ≡ run_to_end count ∷ []) × (rest row false 0 [] ≡ [])
  unfolding events_from
  none_after row count = (refl, refl)

  interrupted_first : (row : List (List ℕ)) (count : ℕ) (pixel : List ℕ) (left : List (List ℕ)) → (pixel ≡ value row → ⊥)
      → rest row true count (pixel ∷ left) ≡ interrupted_run count (near row) pixel ∷ rest (row ++ pixel ∷ []) false 0 left
  unfolding events_from
  interrupted_first row count pixel left n = let t = unequal_text pixel (value row) n in rw t refl

  pub first_event : (p : CodingParameters) (row : List (List ℕ)) (e : Event) (left : List (List ℕ)) → length row < w
      → Fits p w c up row (near row) e → length row + length (added (value row) e) + length left ≡ w
      → rest row false 0 (added (value row) e ++ left) ≡ e ∷ rest (row ++ added (value row) e) false 0 left
  first_event p row (regular_pixel nears pixel) left short fits len =
      regular_first row pixel left fits.0
      ∙ ap (λ z. regular_pixel z pixel ∷ rest (row ++ pixel ∷ []) false 0 left) (sym fits.1)
  first_event p row (run_to_end n) left short fits len =
      let v = value row in let lr = length-replicate n v in let f = fits.1 in
      let none : left ≡ [] = nil_from_length left (omega (arith, lr, f)) in
      let la = length-append (replicate n v) left in
      let zero_n : 0 + n ≡ n = omega arith in
      begun row (replicate n v ++ left) (omega (arith, la, lr, f)) fits.0 ∙ held row row 0 n left (sym (append-nil row))
      ∙ ap (λ z. rest (row ++ replicate n v) true z left) zero_n
      ∙ ap (λ z. rest (row ++ replicate n v) true n z) none ∙ (none_after (row ++ replicate n v) n).0
      ∙ ap (λ z. run_to_end n ∷ z) (sym (none_after (row ++ replicate n v) n).1)
      ∙ ap (λ z. run_to_end n ∷ rest (row ++ replicate n v) false 0 z) (sym none)
  first_event p row (interrupted_run n nears pixel) left short fits len =
      let v = value row in let row' = row ++ replicate n v in
      let la = length-append (replicate n v) (pixel ∷ left) in
      let zero_n : 0 + n ≡ n = omega arith in
      let keeps : value row' ≡ v = run_keeps w up row c n in
      ap (λ z. rest row false 0 z) (append_assoc (replicate n v) (pixel ∷ []) left)
      ∙ begun row (replicate n v ++ pixel ∷ left) (omega (arith, la)) fits.0
      ∙ held row row 0 n (pixel ∷ left) (sym (append-nil row)) ∙ ap (λ z. rest row' true z (pixel ∷ left)) zero_n
      ∙ interrupted_first row' n pixel left (λ q. fits.4 (q ∙ keeps))
      ∙ ap (λ z. interrupted_run n z pixel ∷ rest (row' ++ pixel ∷ []) false 0 left) (sym fits.2)
      ∙ ap (λ z. interrupted_run n nears pixel ∷ rest z false 0 left) (append_assoc row (replicate n v) (pixel ∷ []))

  -- an event adds a pixel at least, and none past the end of its row
  pub added_within : (p : CodingParameters) (row : List (List ℕ)) (e : Event) → length row < w → Fits p w c up row (near row) e
      → (length row < length (row ++ added (value row) e)) × (length (row ++ added (value row) e) ≤ w)
  added_within p row (regular_pixel nears pixel) short fits = let l = length-append row (pixel ∷ []) in (omega arith, omega arith)
  added_within p row (run_to_end n) short fits =
      let l = length-append row (replicate n (value row)) in let r = length-replicate n (value row) in let f = fits.1 in
      (omega arith, omega arith)
  added_within p row (interrupted_run n nears pixel) short fits =
      let l = length-append row (replicate n (value row) ++ pixel ∷ []) in
      let m = length-append (replicate n (value row)) (pixel ∷ []) in let r = length-replicate n (value row) in let f = fits.1 in
      (omega arith, omega arith)

-- the events of one row more
rows_more : (w c : ℕ) (before rows : List (List (List ℕ))) (row : List (List ℕ))
    → events_after w c before (rows ++ row ∷ []) ≡ events_after w c before rows
    ++ events_from w c (rows_above (before ++ rows)) [] false 0 row
unfolding events_after
rows_more w c before [] row =
    append-nil (events_from w c (rows_above before) [] false 0 row)
    ∙ ap (λ z. events_from w c (rows_above z) [] false 0 row) (sym (append-nil before))
rows_more w c before (r ∷ rows) row =
    let first = events_from w c (rows_above before) [] false 0 r in
    ap (λ z. first ++ z) (rows_more w c (before ++ r ∷ []) rows row
    ∙ ap (λ z. events_after w c (before ++ r ∷ []) rows ++ events_from w c (rows_above z) [] false 0 row) (append_assoc before (r ∷ [])
    rows))
    ∙ sym (append_assoc first (events_after w c (before ++ r ∷ []) rows) (events_from w c (rows_above (before ++ r ∷ rows)) [] false 0 row))

no_events : (w c : ℕ) → events w c [] ≡ []
unfolding events_after
no_events w c = refl

-- Places that events lead to ------------------------------------------------------------------------

module _ (p : CodingParameters) (w c n : ℕ) (some : 0 < w) where
  -- the events that led to a place are those of its finished rows, and then those of its begun row
  pub record Parted (es : List Event) (z : Position) : Type 0 where
    pub row_events : List Event
    pub earlier_is : z.earlier ≡ es
    pub short : length z.row < w
    pub few : length z.rows ≤ n
    pub closed : length z.rows ≡ n → (z.row ≡ []) × (row_events ≡ [])
    pub rows : AllByRecursion (IsRow p w c) z.rows
    pub row : AllByRecursion (IsPixel p c) z.row
    pub events_are : es ≡ events w c z.rows ++ row_events
    pub parted : (left : List (List ℕ)) → length z.row + length left ≡ w
        → events_from w c (rows_above z.rows) [] false 0 (z.row ++ left)
        ≡ row_events ++ events_from w c (rows_above z.rows) z.row false 0 left

  pub parted_start : Parted [] start
  parted_start = record {
    earlier_is = refl;
    short = some;
    few = omega arith;
    closed = λ h. (refl, refl);
    rows = tt;
    row = tt;
    row_events = [];
    events_are = sym (append-nil (events w c []) ∙ no_events w c);
    parted = λ left h. refl;
  }

  rows_of : (rows : List (List (List ℕ))) → AllByRecursion (IsRow p w c) rows → AllByRecursion (AllByRecursion (IsPixel p c)) rows
  rows_of [] h = tt
  rows_of (r ∷ rs) h = (h.0.1, rows_of rs h.1)

  -- no pixel has a sample above MAXVAL
  pub parted_pixels : (es : List Event) (z : Position) → Parted es z → HasPixels p c z
  parted_pixels es z t = (rows_of z.rows t.rows, t.row)

  -- one event more
  pub parted_more : (es : List Event) (z : Position) (e : Event) → Parted es z → IsNext p w c n z e → Parted (es ++ e ∷ []) (moved w c z e)
  parted_more es z e t next =
      elim (cases_lt (length longer) w) [
        | inl h ↦ subst (Parted (es ++ e ∷ [])) (sym (grown_part w z.rows longer (z.earlier ++ e ∷ []) h)) (in_row h)
        | inr h ↦
            (let full = le_antisymm within.1 h in
            subst (Parted (es ++ e ∷ [])) (sym (grown_full w z.rows longer (z.earlier ++ e ∷ []) full)) (row_ends full))
      ]
    where
      up : RowsAbove
      up = rows_above z.rows

      new : List (List ℕ)
      new = added (run_value (here w c z)) e

      longer : List (List ℕ)
      longer = z.row ++ new

      within : (length z.row < length longer) × (length longer ≤ w)
      within = added_within w c up p z.row e t.short next.1

      pixels : AllByRecursion (IsPixel p c) longer
      pixels =
          let has = parted_pixels es z t in
          let v = value_is_pixel p c w up (back_small p c z.rows 1 has.0) z.row t.row in
          all_append (IsPixel p c) z.row new t.row (added_pixels p w c n z e v next.1)

      parted_longer : (left : List (List ℕ)) → length longer + length left ≡ w
          → events_from w c up [] false 0 (longer ++ left) ≡ (t.row_events ++ e ∷ []) ++ events_from w c up longer false 0 left
      parted_longer left h =
          let la = length-append z.row new in let lb = length-append new left in
          ap (λ z. events_from w c up [] false 0 z) (append_assoc z.row new left) ∙ t.parted (new ++ left) (omega arith)
          ∙ ap (λ z. t.row_events ++ z) (first_event w c up p z.row e left t.short next.1 (omega arith))
          ∙ sym (append_assoc t.row_events (e ∷ []) (events_from w c up longer false 0 left))

      in_row : length longer < w → Parted (es ++ e ∷ []) (record { rows = z.rows; row = longer; earlier = z.earlier ++ e ∷ [] })
      in_row h = let unfinished : length z.rows < n = next.0 in record {
        earlier_is = ap (λ z. z ++ e ∷ []) t.earlier_is;
        short = h;
        few = t.few;
        closed = λ q. absurd (omega arith);
        rows = t.rows;
        row = pixels;
        row_events = t.row_events ++ e ∷ [];
        events_are = ap (λ z. z ++ e ∷ []) t.events_are ∙ append_assoc (events w c z.rows) t.row_events (e ∷ []);
        parted = parted_longer;
      }

      row_ends : length longer ≡ w
          → Parted (es ++ e ∷ []) (record { rows = z.rows ++ longer ∷ []; row = []; earlier = z.earlier ++ e ∷ [] })
      row_ends full =
          let unfinished : length z.rows < n = next.0 in let lr = length-append z.rows (longer ∷ []) in
          let whole : events_from w c up [] false 0 longer ≡ t.row_events ++ e ∷ [] =
          ap (λ z. events_from w c up [] false 0 z) (sym (append-nil longer)) ∙ parted_longer [] (omega arith)
          ∙ ap (λ z. (t.row_events ++ e ∷ []) ++ z) (none_after w c up longer 0).1 ∙ append-nil (t.row_events ++ e ∷ []) in
          record {
            earlier_is = ap (λ z. z ++ e ∷ []) t.earlier_is;
            short = some;
            few = omega arith;
            closed = λ q. (refl, refl);
            rows = all_append (IsRow p w c) z.rows (longer ∷ []) t.rows ((full, pixels), tt);
            row = tt;
            row_events = [];
            events_are = ap (λ z. z ++ e ∷ []) t.events_are ∙ append_assoc (events w c z.rows) t.row_events (e ∷ [])
                ∙ ap (λ q. events w c z.rows ++ q) (sym whole) ∙ sym (rows_more w c [] z.rows longer)
                ∙ sym (append-nil (events w c (z.rows ++ longer ∷ [])));
            parted = λ left h. refl;
          }

  parted_along : (es before : List Event) (s z : Position) → Parted before s → Leads (pixel_steps p w c n) s es z → Parted (before ++ es) z
  parted_along [] before s z t l = subst (λ b. Parted b z) (sym (append-nil before)) (subst (Parted before) l t)
  parted_along (e ∷ es) before s z t l =
      subst (λ b. Parted b z) (append_assoc before (e ∷ []) es)
      (parted_along es (before ++ e ∷ []) (moved w c s e) z (parted_more before s e t l.0) l.1)

  -- from the start
  pub parted_from : (es : List Event) (z : Position) → Leads (pixel_steps p w c n) start es z → Parted es z
  parted_from es z l = parted_along es [] start z parted_start l

  -- at a place where rows are missing an event can come next
  pub some_next : (z : Position) → length z.row < w → length z.rows < n → (e : Event) × IsNext p w c n z e
  some_next z short unfinished =
      elim (cases_Bool (is_run_pixel (here w c z))) [
        | inl h ↦ (run_to_end (w - length z.row), (unfinished, (h, omega arith)))
        | inr h ↦ (
          regular_pixel (here w c z) (replicate c 0),
          (unfinished, (h, refl, (length-replicate c 0, all_replicate (λ s. s ≤ p.maxval) c 0 (omega arith)))),
        )
      ]

  -- the rows are whole
  pub all_rows : (es : List Event) (z : Position) → Parted es z → n ≤ length z.rows
      → AreRows p w c n z.rows × (z.row ≡ []) × (es ≡ events w c z.rows)
  all_rows es z t h =
      let f = t.few in let full : length z.rows ≡ n = omega arith in let row = t.closed full in (
        record { count_is = full; each = t.rows },
        row.0,
        t.events_are ∙ ap (λ q. events w c z.rows ++ q) row.1 ∙ append-nil (events w c z.rows),
      )

  pub growth_ends : (es : List Event) (z : Position) → Leads (pixel_steps p w c n) start es z → IsEnd (pixel_steps p w c n) z
      → AreRows p w c n z.rows × (z ≡ finish w c z.rows) × (es ≡ events w c z.rows)
  growth_ends es z l end =
      let t = parted_from es z l in
      elim (cases_lt (length z.rows) n) [
        | inl h ↦ (let x = some_next z t.short h in absurd (end x.0 x.1))
        | inr h ↦ (let r = all_rows es z t h in (r.0, place_is z.rows z.row [] z.earlier (events w c z.rows) r.1 (t.earlier_is ∙ r.2), r.2))
      ]
    where
      place_is : (rows : List (List (List ℕ))) (x y : List (List ℕ)) (es fs : List Event) → x ≡ y → es ≡ fs
          → (let q : Position = record { rows = rows; row = x; earlier = es } in q) ≡ record { rows = rows; row = y; earlier = fs }
      place_is rows x y es fs a b = cc
