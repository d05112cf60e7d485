-- Finished lines are parted into events in exactly one way, and `events` computes it.
use Rattle.std.proofs.Common.{◌≡◌, ℕ, zero, suc, ◌+◌, ◌-◌, ◌/◌, ◌%◌, ◌<◌, ◌≤◌, true, false, eqb, List, [], ◌∷◌, ◌++◌, length, take, drop}
use Rattle.std.proofs.Common.{get_or, refl, sym, ap, ◌∙◌, subst, arith, inl, inr}
use Rattle.std.specs.Prelude.{pos}
use Rattle.std.specs.List.{prefix_len, AllByRecursion}
use Rattle.std.proofs.lemmas.List.{get_or-drop, length-drop, drop_more, drop_all, take_more, length-take-le}
use Rattle.std.proofs.lemmas.List.Sums.{prefix_len_is, prefix_len_passes, prefix_len_stops, prefix_len-le-length}
use Rattle.std.proofs.lemmas.Bool.{cases_Bool, cases_lt, eq-eqb, ne_eqb, eqb-true, eqb-false}
use Rattle.jls_values.specs.Params.{CodingParameters}
use Rattle.jls_context.specs.declared.mode.Neighbours.{Neighbours}
use Rattle.jls_context.specs.Mode.{is_run_mode}
use Rattle.jls_interval.specs.Lines.{IsLine, sample_at, neighbours_at}
use Rattle.jls_interval.specs.Events.{Event, regular, run_to_end, interrupted_run, HoldRun, StandsIn, IsParted, AreParted, AreEvents, Above}
use Rattle.jls_interval.specs.Events.{neighbours, above, run_stop, Stretch, stretch, events_from, line_events, events_after, events}
use Rattle.jls_interval.proofs.Stretches.{to, stretch_same, past, more, at_regular, at_end, at_stop}
use Rattle.jls_interval.proofs.GrownLines.{stretch_moves, fuel_same}
use Rattle.jls_interval.proofs.NeighboursAgree.{sample_is, neighbours_are}

-- Line j of the lines, which has the width w
module _ (w c : ℕ) (lines : List (List ℕ)) (j : ℕ) (some : 0 < c) (within : j < length lines) (wide : length (get_or lines j []) ≡ w) where
  abbrev line : List ℕ
  line = get_or lines j []

  abbrev k : ℕ
  k = j % c

  abbrev up : Above
  up = above c (take j lines)

  abbrev at : ℕ → Neighbours
  at x = neighbours w up line x

  sample : (x : ℕ) → sample_at c lines k (pos (j / c)) x ≡ get_or line x 0
  sample x = sample_is c lines j some (omega arith) x

  near : (x : ℕ) → neighbours_at w c lines k (j / c) x ≡ at x
  near x = neighbours_are c lines j some (omega arith) w x

  -- columns that hold the run, as a test of the list
  holds_passes : (x count : ℕ) → HoldRun w c lines k (j / c) x count → (i : ℕ) → i < count → eqb (get_or (drop x line) i 0) (at x).ra ≡ true
  holds_passes x count h i l =
      eq-eqb _ _ (get_or-drop x line i 0 ∙ sym (sample (x + i)) ∙ h i l ∙ ap (λ (n : Neighbours). n.ra) (near x))

  passes_hold : (x count : ℕ) → count ≤ prefix_len (λ s. eqb s (at x).ra) (drop x line) → HoldRun w c lines k (j / c) x count
  passes_hold x count h i l =
      let q = prefix_len_passes (λ s. eqb s (at x).ra) (drop x line) i 0 (omega arith) in
      sample (x + i) ∙ sym (get_or-drop x line i 0) ∙ eqb-true _ _ q ∙ ap (λ (n : Neighbours). n.ra) (sym (near x))

  run_is : (x : ℕ) → is_run_mode (neighbours_at w c lines k (j / c) x) ≡ is_run_mode (at x)
  run_is x = ap is_run_mode (near x)

  -- what stands at a column is the stretch there
  stands_stretch : (x : ℕ) (e : Event) (next : ℕ) → x < w → StandsIn w c lines k (j / c) x e next → stretch w k up line x ≡ to e next
  stands_stretch x (regular n s) next l h =
      at_regular w k up line x (sym (run_is x) ∙ ap is_run_mode (sym h.near_is) ∙ h.not_run)
      ∙ stretch_same (regular (at x) (get_or line x 0)) (regular n s) (suc x) next
      (let a = h.near_is ∙ near x in let b = h.sample_is ∙ sample x in cc) (let e = h.next_is in omega arith)
  stands_stretch x (run_to_end of count) next l h =
      let d = length-drop x line in let full : x + count ≡ w = h.to_end in
      let len : prefix_len (λ s. eqb s (at x).ra) (drop x line) ≡ count =
      prefix_len_is (λ s. eqb s (at x).ra) (drop x line) count 0 (omega arith) (holds_passes x count h.holds)
      (λ m. absurd (omega arith)) in
      at_end w k up line x (sym (run_is x) ∙ h.run) (omega arith)
      ∙ stretch_same (run_to_end k (w - x)) (run_to_end of count) w next
      (let a = h.component_is in let b : w - x ≡ count = omega arith in cc) (sym h.next_is)
  stands_stretch x (interrupted_run of count n s) next l h =
      let d = length-drop x line in let room : x + count < w = h.within in
      let other : eqb (get_or (drop x line) count 0) (at x).ra ≡ false =
      ne_eqb _ _ (λ e. h.interrupts (h.sample_is ∙ sample (x + count) ∙ sym (get_or-drop x line count 0) ∙ e
      ∙ ap (λ (n : Neighbours). n.ra) (sym (near x)))) in
      let len : prefix_len (λ s. eqb s (at x).ra) (drop x line) ≡ count =
      prefix_len_is (λ s. eqb s (at x).ra) (drop x line) count 0 (omega arith) (holds_passes x count h.holds) (λ m. other) in
      at_stop w k up line x (x + count) (sym (run_is x) ∙ h.run) (ap (λ z. x + z) len) room
      ∙ stretch_same (interrupted_run k (x + count - x) (at (x + count)) (get_or line (x + count) 0)) (interrupted_run of count n s)
      (suc (x + count)) next (let a = h.component_is in let b : x + count - x ≡ count = omega arith in
      let f = h.near_is ∙ near (x + count) in let g = h.sample_is ∙ sample (x + count) in cc) (let e = h.next_is in omega arith)

  -- the stretch at a column stands there
  stretch_stands : (x : ℕ) → x < w → (e : Event) (next : ℕ) → stretch w k up line x ≡ to e next
      → StandsIn w c lines k (j / c) x e next × (next ≤ w)
  stretch_stands x l e next is =
      let stop = run_stop line (at x).ra x in let d = length-drop x line in
      let pl = prefix_len-le-length (λ s. eqb s (at x).ra) (drop x line) in
      elim (cases_Bool (is_run_mode (at x))) [
        | inl r ↦ elim (cases_lt stop w) [
          | inl s ↦ (let q = sym (at_stop w k up line x stop r refl s) ∙ is in
              along (interrupted_run k (stop - x) (at stop) (get_or line stop 0)) (suc stop) e next q (stops x r s))
          | inr s ↦
              (let q = sym (at_end w k up line x r s) ∙ is in along (run_to_end k (w - x)) w e next q (ends x l r s))
        ]
        | inr r ↦
            (let q = sym (at_regular w k up line x r) ∙ is in along (regular (at x) (get_or line x 0)) (suc x) e next q (alone x l r))
      ]
    where
      along : (f : Event) (m : ℕ) (e : Event) (next : ℕ) → to f m ≡ to e next → StandsIn w c lines k (j / c) x f m × (m ≤ w)
          → StandsIn w c lines k (j / c) x e next × (next ≤ w)
      along f m e next q h = subst (λ (z : Stretch). StandsIn w c lines k (j / c) x z.event z.next × (z.next ≤ w)) q h

      alone : (x : ℕ) → x < w → is_run_mode (at x) ≡ false
          → StandsIn w c lines k (j / c) x (regular (at x) (get_or line x 0)) (suc x) × (suc x ≤ w)
      alone x l r = (record { near_is = sym (near x); not_run = r; sample_is = sym (sample x); next_is = omega arith }, l)

      ends : (x : ℕ) → x < w → is_run_mode (at x) ≡ true → w ≤ run_stop line (at x).ra x
          → StandsIn w c lines k (j / c) x (run_to_end k (w - x)) w × (w ≤ w)
      ends x l r s = (
        record {
          component_is = refl;
          run = run_is x ∙ r;
          to_end = omega arith;
          holds = passes_hold x (w - x) (omega arith);
          next_is = refl;
        },
        omega arith,
      )

      stops : (x : ℕ) → is_run_mode (at x) ≡ true → run_stop line (at x).ra x < w
          → StandsIn w c lines k (j / c) x
          (interrupted_run k (run_stop line (at x).ra x - x) (at (run_stop line (at x).ra x)) (get_or line (run_stop line (at x).ra x) 0))
          (suc (run_stop line (at x).ra x)) × (suc (run_stop line (at x).ra x) ≤ w)
      stops x r s =
          let n = prefix_len (λ s. eqb s (at x).ra) (drop x line) in let d = length-drop x line in let b : x + n - x ≡ n = omega arith in
          let f : x + (x + n - x) ≡ x + n = omega arith in
          let stop = prefix_len_stops (λ s. eqb s (at x).ra) (drop x line) 0 (omega arith) in (
            record {
              component_is = refl;
              run = run_is x ∙ r;
              within = omega arith;
              holds = passes_hold x (x + n - x) (omega arith);
              near_is = ap at (sym f) ∙ sym (near (x + (x + n - x)));
              sample_is = ap (λ z. get_or line z 0) (sym f)
                  ∙ sym (sample (x + (x + n - x)));
              interrupts =
                  λ e. eqb-false _ _ stop (get_or-drop x line n 0 ∙ e ∙ ap (λ (m : Neighbours). m.ra) (near x));
              next_is = omega arith;
            },
            omega arith,
          )

  -- the columns from x on
  parted_only : (es : List Event) (x : ℕ) → IsParted w c lines k (j / c) x es → es ≡ events_from (stretch w k up line) w w x
  parted_only [] x h = sym (past w k up w line x (let e : x ≡ w = h in omega arith))
  parted_only (e ∷ es) x h =
      let s = stands_stretch x e h.0 h.1 h.2 in let m = stretch_moves w k up line x h.1 in
      let l : x < w = h.1 in
      ap (λ z. e ∷ z) (parted_only es h.0 h.3) ∙ ap (λ (z : Stretch). z.event ∷ events_from (stretch w k up line) w w z.next) (sym s)
      ∙ sym (more w k up w line x l) ∙ fuel_same w k up (suc w) w line x (omega arith) (omega arith)

  -- the events from a column on, one stretch after the other, part the rest of the line
  parted_so : (fuel x : ℕ) → x ≤ w → w ≤ x + fuel → IsParted w c lines k (j / c) x (events_from (stretch w k up line) w fuel x)
  parted_so zero x l f = let e : x ≡ w = omega arith in
      subst (λ z. IsParted w c lines k (j / c) x z) (sym (past w k up zero line x (omega arith))) e
  parted_so (suc fuel) x l f =
      elim (cases_lt x w) [
        | inl m ↦ (let s = stretch w k up line x in let h = stretch_stands x m s.event s.next refl in
            let g = stretch_moves w k up line x m in
            subst (λ z. IsParted w c lines k (j / c) x z) (sym (more w k up fuel line x m))
            (s.next, m, h.0, parted_so fuel s.next h.1 (omega arith)))
        | inr m ↦
            (let e : x ≡ w = omega arith in subst (λ z. IsParted w c lines k (j / c) x z) (sym (past w k up (suc fuel) line x m)) e)
      ]

-- The lines from line j on ------------------------------------------------------

wide_at : (p : CodingParameters) (w : ℕ) (lines : List (List ℕ)) (j : ℕ) → AllByRecursion (IsLine p w) lines → j < length lines
    → length (get_or lines j []) ≡ w
wide_at p w [] j h l = absurd (omega arith)
wide_at p w (x ∷ xs) zero h l = h.0.0
wide_at p w (x ∷ xs) (suc j) h l = wide_at p w xs j h.1 (omega arith)

module _ (p : CodingParameters) (w c : ℕ) (lines : List (List ℕ)) (some : 0 < c) (wide : AllByRecursion (IsLine p w) lines) where
  -- the events from line j on, as they are computed
  abbrev from_line : ℕ → List Event
  from_line j = events_after w c (take j lines) (drop j lines)

  -- the events from a line on are those of the line, and then those from the next on
  first_line : (j : ℕ) → j < length lines
      → from_line j ≡ line_events w (j % c) (above c (take j lines)) (get_or lines j []) ++ from_line (j + 1)
  unfolding events_after
  first_line j l =
      let n = length-take-le j lines (omega arith) in let d = drop_more lines j [] l in let t = take_more lines j [] l in
      ap (λ z. events_after w c (take j lines) z) d
      ∙ ap (λ z. line_events w (z % c) (above c (take j lines)) (get_or lines j [])
      ++ events_after w c (take j lines ++ get_or lines j [] ∷ []) (drop (j + 1) lines)) n
      ∙ ap (λ z. line_events w (j % c) (above c (take j lines)) (get_or lines j []) ++ events_after w c z (drop (j + 1) lines)) (sym t)

  no_line : (j : ℕ) → length lines ≤ j → from_line j ≡ []
  unfolding events_after
  no_line j l = ap (λ z. events_after w c (take j lines) z) (drop_all j lines l)

  -- events into which the lines from one on are parted are the events that are computed
  only_so : (n j : ℕ) (es : List Event) → j + n ≡ length lines → AreParted w c lines j n es → es ≡ from_line j
  only_so zero j es e h = h ∙ sym (no_line j (omega arith))
  only_so (suc n) j es e h =
      let l : j < length lines = omega arith in
      h.2 ∙ ap (λ z. z ++ h.1) (parted_only w c lines j some l (wide_at p w lines j wide l) h.0 0 h.3)
      ∙ ap (λ z. line_events w (j % c) (above c (take j lines)) (get_or lines j []) ++ z) (only_so n (j + 1) h.1 (omega arith) h.4)
      ∙ sym (first_line j l)

  -- the events that are computed part the lines from one on
  parted_as : (n j : ℕ) → j + n ≡ length lines → AreParted w c lines j n (from_line j)
  parted_as zero j e = no_line j (omega arith)
  parted_as (suc n) j e =
      let l : j < length lines = omega arith in (
        line_events w (j % c) (above c (take j lines)) (get_or lines j []),
        from_line (j + 1),
        first_line j l,
        parted_so w c lines j some l (wide_at p w lines j wide l) w 0 (omega arith) (omega arith),
        parted_as n (j + 1) (omega arith),
      )

  pub only_events : (es : List Event) → AreEvents w c lines es → es ≡ events w c lines
  only_events es h = only_so (length lines) 0 es (omega arith) h

  pub events_part : AreEvents w c lines (events w c lines)
  events_part = parted_as (length lines) 0 (omega arith)
