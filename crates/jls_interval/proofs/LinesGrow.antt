-- Finished lines are parted into events that lead to them.
use Rattle.std.proofs.Common.{◌≡◌, ℕ, zero, suc, ◌+◌, ◌%◌, ◌<◌, ◌≤◌, true, List, [], ◌∷◌, ◌++◌, length, replicate, refl, sym, ap, ◌∙◌}
use Rattle.std.proofs.Common.{subst, arith, inl, inr, append_assoc, length-append}
use Rattle.std.specs.List.{AllByRecursion}
use Rattle.std.proofs.lemmas.List.{append-nil, length-replicate, nil_from_length, append_cancel_left}
use Rattle.std.proofs.Math.Nat.{le_antisymm}
use Rattle.std.proofs.lemmas.Bool.{cases_Bool, cases_lt, cases_eq}
use Rattle.jls_values.specs.Params.{CodingParameters}
use Rattle.jls_context.specs.Mode.{is_run_mode}
use Rattle.jls_interval.specs.Events.{Event, regular, run_to_end, interrupted_run, Above, neighbours, above, events, events_after}
use Rattle.jls_interval.specs.Lines.{IsLine, AreLines}
use Rattle.jls_interval.specs.Stepwise.{StepwiseCode, Leads}
use Rattle.jls_interval.specs.Growth.{Fits, added, Position, IsNext, grown, moved, interval_steps, start, finish}
use Rattle.jls_interval.proofs.Stretches.{regroup}
use Rattle.jls_interval.proofs.GrownLines.{line_events_from, Small, events_from_last, events_from_next, grown_full, grown_part, added_fits}
use Rattle.jls_interval.proofs.GrownLines.{m}

abbrev Stops : ℕ → List ℕ → Type 0
Stops v [] = Unit {0}
Stops v (s ∷ ss) = s ≡ v → ⊥

record Split (v : ℕ) (xs : List ℕ) : Type 0 where
  n : ℕ
  rest : List ℕ
  is : xs ≡ replicate n v ++ rest
  stops : Stops v rest

-- each list is as many of one value as it begins with, and a rest that does not begin with it
split : (v : ℕ) (xs : List ℕ) → Split v xs
split v [] = record { n = 0; rest = []; is = refl; stops = tt }
split v (x ∷ xs) =
    elim (cases_eq x v) [
      | inl e ↦ (let r = split v xs in record { n = suc r.n; rest = r.rest; is = (let i = r.is in cc); stops = r.stops })
      | inr ne ↦ record { n = 0; rest = x ∷ xs; is = refl; stops = ne }
    ]

-- what holds of each item of two lists in turn holds of each of the second
pub all_of_append : (P : ℕ → Type 0) (xs ys : List ℕ) → AllByRecursion P (xs ++ ys) → AllByRecursion P ys
all_of_append P [] ys h = h
all_of_append P (x ∷ xs) ys h = all_of_append P xs ys h.1

module _ (p : CodingParameters) (w k : ℕ) (up : Above) where
  -- the first event of what is left of a line
  pub record First (line whole : List ℕ) : Type 0 where
    pub event : Event
    pub fits : Fits p w k up line (neighbours w up line (length line)) event
    pub rest : List ℕ
    pub is : whole ≡ (line ++ added (neighbours w up line (length line)).ra event) ++ rest

  -- in run mode the columns left begin with a run, to the end of the line or interrupted
  run_first : (line left : List ℕ) → length line < w → length line + length left ≡ w → Small p left
      → is_run_mode (neighbours w up line (length line)) ≡ true → Split (neighbours w up line (length line)).ra left
      → First line (line ++ left)
  run_first line left l h small r s = go s.rest s.is s.stops
    where
      v : ℕ
      v = (neighbours w up line (length line)).ra

      go : (rest : List ℕ) → left ≡ replicate s.n (neighbours w up line (length line)).ra ++ rest
          → Stops (neighbours w up line (length line)).ra rest → First line (line ++ left)
      go [] e st =
          let e' : left ≡ replicate s.n (neighbours w up line (length line)).ra = e ∙ append-nil _ in
          let le = ap length e' ∙ length-replicate s.n (neighbours w up line (length line)).ra in
          record {
            event = run_to_end k s.n;
            fits = (r, refl, omega (arith, le));
            rest = [];
            is = ap (λ z. line ++ z) e'
                ∙ sym (append-nil _);
          }
      go (x ∷ xs) e st =
          let lr = length-replicate s.n (neighbours w up line (length line)).ra in
          let le = ap length e ∙ length-append (replicate s.n (neighbours w up line (length line)).ra) (x ∷ xs) in
          let sm = all_of_append (λ s. s ≤ p.maxval) (replicate s.n (neighbours w up line (length line)).ra) (x ∷ xs)
          (subst (λ z. Small p z) e small) in
          record {
            event = interrupted_run k s.n
                (neighbours w up (line ++ replicate s.n (neighbours w up line (length line)).ra) (length line + s.n)) x;
            fits =
                (r, refl, omega (arith, le, lr), refl, sm.0, st);
            rest = xs;
            is = ap (λ z. line ++ z) e
                ∙ sym (append_assoc line (replicate s.n (neighbours w up line (length line)).ra) (x ∷ xs))
                ∙ sym (shape line (replicate s.n (neighbours w up line (length line)).ra) x xs);
          }
        where
          shape : (a b : List ℕ) (x : ℕ) (c : List ℕ) → (a ++ (b ++ x ∷ [])) ++ c ≡ (a ++ b) ++ x ∷ c
          shape a b x c = append_assoc a (b ++ x ∷ []) c ∙ regroup a b x c

  -- the columns left of a line begin with an event that can come there
  pub first : (line left : List ℕ) → length line < w → length line + length left ≡ w → Small p left → First line (line ++ left)
  first line [] l h small = absurd (omega arith)
  first line (x ∷ xs) l h small =
      elim (cases_Bool (is_run_mode (neighbours w up line (length line)))) [
        | inl r ↦ run_first line (x ∷ xs) l h small r (split (neighbours w up line (length line)).ra (x ∷ xs))
        | inr r ↦
            record {
              event = regular (neighbours w up line (length line)) x;
              fits = (r, refl, small.0);
              rest = xs;
              is =
                  sym (append_assoc line (x ∷ []) xs);
            }
      ]

-- one list of events after another
leads_append : (m : StepwiseCode) (s z y : m.State) (es fs : List m.Event) → Leads m s es z → Leads m z fs y → Leads m s (es ++ fs) y
leads_append m s z y [] fs p q = subst (λ v. Leads m v fs y) (sym p) q
leads_append m s z y (e ∷ es) fs p q = (p.0, leads_append m (m.after s e) z y es fs p.1 q)

module _ (p : CodingParameters) (w c n : ℕ) (some : 0 < w) where
  abbrev at_line : List (List ℕ) → List ℕ → List Event → Position
  at_line lines line earlier = record { lines = lines; line = line; earlier = earlier }

  abbrev line_tail : List (List ℕ) → List ℕ → ℕ → List Event
  line_tail lines whole x = line_events_from p w (length lines % c) (above c lines) whole x

  abbrev Goal : List (List ℕ) → List ℕ → List ℕ → List Event → Type 0
  Goal lines line whole earlier =
      Leads (interval_steps p w c n) (at_line lines line earlier) (line_tail lines whole (length line))
      (at_line (lines ++ whole ∷ []) [] (earlier ++ line_tail lines whole (length line)))

  -- an event, and then what leads on
  leads_cons : (s y : Position) (e : Event) (es : List Event) → IsNext p w c n s e → Leads (interval_steps p w c n) (moved w c s e) es y
      → Leads (interval_steps p w c n) s (e ∷ es) y
  leads_cons s y e es a b = (a, b)

  -- the events of the columns left lead to the end of the line; `fuel` bounds how many columns these are
  leads_line : (fuel : ℕ) (lines : List (List ℕ)) (line left whole : List ℕ) (earlier : List Event) → whole ≡ line ++ left
      → length whole ≡ w → length line < w → Small p left
      → w ≤ length line + fuel → length lines < n → Goal lines line whole earlier
  leads_line zero lines line left whole earlier e lw l small f a = absurd (omega arith)
  leads_line (suc fuel) lines line left whole earlier e lw l small f a =
      let k = length lines % c in let up = above c lines in
      let len : length line + length left ≡ w = sym (length-append line left) ∙ ap length (sym e) ∙ lw in
      let t = first p w k up line left l len small in
      let line' = line ++ added (neighbours w up line (length line)).ra t.event in
      let is : whole ≡ line' ++ t.rest = e ∙ t.is in
      let af = added_fits p w k up line t.event l t.fits in
      let lt' = length-append line' t.rest in let lis = ap length is in
      elim (cases_lt (length line') w) [
        | inl h ↦ (let nx = events_from_next p w k up line t.rest whole t.event l is lw t.fits in
            let small' = all_of_append (λ s. s ≤ p.maxval) (added (neighbours w up line (length line)).ra t.event) t.rest
            (subst (λ z. Small p z) (same_prefix line left (added (neighbours w up line (length line)).ra t.event ++ t.rest)
            (sym e ∙ is ∙ append_assoc line (added (neighbours w up line (length line)).ra t.event) t.rest)) small) in
            let r = leads_line fuel lines line' t.rest whole (earlier ++ t.event ∷ []) is lw h small' (omega arith) a in
            let r' = subst (λ v. Leads (interval_steps p w c n) v (line_tail lines whole (length line'))
            (at_line (lines ++ whole ∷ []) [] ((earlier ++ t.event ∷ []) ++ line_tail lines whole (length line'))))
            (sym (grown_part p w c n some lines line' (earlier ++ t.event ∷ []) h)) r in
            finish_step lines line whole earlier t.event (line_tail lines whole (length line')) nx
            (leads_cons (at_line lines line earlier)
            (at_line (lines ++ whole ∷ []) [] ((earlier ++ t.event ∷ []) ++ line_tail lines whole (length line'))) t.event
            (line_tail lines whole (length line')) (a, t.fits) r'))
        | inr h ↦
            (let le = le_antisymm af.1 h in let none = nil_from_length t.rest (omega arith) in
            let is' : whole ≡ line' = is ∙ ap (λ z. line' ++ z) none ∙ append-nil line' in
            let la = events_from_last p w k up line t.event l le t.fits in
            let la' : line_tail lines whole (length line) ≡ t.event ∷ [] = ap (λ z. line_tail lines z (length line)) is' ∙ la in
            let gf = grown_full p w c n some lines line' (earlier ++ t.event ∷ []) le in
            let gf' : grown w lines line' (earlier ++ t.event ∷ []) ≡ at_line (lines ++ whole ∷ []) [] (earlier ++ t.event ∷ []) = gf
            ∙ ap (λ z. at_line (lines ++ z ∷ []) [] (earlier ++ t.event ∷ [])) (sym is') in
            subst (λ z. Leads (interval_steps p w c n) (at_line lines line earlier) z (at_line (lines ++ whole ∷ []) [] (earlier ++ z)))
            (sym la') (leads_cons (at_line lines line earlier) (at_line (lines ++ whole ∷ []) [] (earlier ++ t.event ∷ [])) t.event []
            (a, t.fits) gf'))
      ]
    where
      same_prefix : (a b c : List ℕ) → a ++ b ≡ a ++ c → b ≡ c
      same_prefix a b c e = append_cancel_left a b c e

      finish_step : (lines : List (List ℕ)) (line whole : List ℕ) (earlier : List Event) (e : Event) (es : List Event)
          → line_tail lines whole (length line) ≡ e ∷ es
          → Leads (interval_steps p w c n) (at_line lines line earlier) (e ∷ es)
          (at_line (lines ++ whole ∷ []) [] ((earlier ++ e ∷ []) ++ es)) → Goal lines line whole earlier
      finish_step lines line whole earlier e es t l =
          subst (λ z. Leads (interval_steps p w c n) (at_line lines line earlier) z (at_line (lines ++ whole ∷ []) [] (earlier ++ z)))
          (sym t) (subst (λ z. Leads (interval_steps p w c n) (at_line lines line earlier) (e ∷ es) (at_line (lines ++ whole ∷ []) [] z))
          (append_assoc earlier (e ∷ []) es) l)

  -- the events of some lines lead from the lines before them to all of these lines
  leads_lines : (ls before : List (List ℕ)) (earlier : List Event) → length before + length ls ≡ n → AllByRecursion (IsLine p w) ls
      → Leads (interval_steps p w c n) (at_line before [] earlier) (events_after w c before ls)
      (at_line (before ++ ls) [] (earlier ++ events_after w c before ls))
  unfolding events_after
  leads_lines [] before earlier h all = let a = append-nil before in let b = append-nil earlier in cc
  leads_lines (l ∷ ls) before earlier h all =
      let la = length-append before (l ∷ []) in
      let one : Goal before [] l earlier = leads_line w before [] l l earlier refl all.0.0 some all.0.1 (omega arith) (omega arith) in
      let rest = leads_lines ls (before ++ l ∷ []) (earlier ++ line_tail before l 0) (omega arith) all.1 in
      let rest' : Leads (interval_steps p w c n) (at_line (before ++ l ∷ []) [] (earlier ++ line_tail before l 0))
      (events_after w c (before ++ l ∷ []) ls)
      (at_line (before ++ l ∷ ls) [] (earlier ++ (line_tail before l 0 ++ events_after w c (before ++ l ∷ []) ls))) =
      subst (λ z. Leads (interval_steps p w c n) (at_line (before ++ l ∷ []) [] (earlier ++ line_tail before l 0))
      (events_after w c (before ++ l ∷ []) ls) z)
      (place_same _ _ _ _ (append_assoc before (l ∷ []) ls)
      (append_assoc earlier (line_tail before l 0) (events_after w c (before ++ l ∷ []) ls))) rest in
      leads_append (interval_steps p w c n) (at_line before [] earlier) (at_line (before ++ l ∷ []) [] (earlier ++ line_tail before l 0))
      (at_line (before ++ l ∷ ls) [] (earlier ++ (line_tail before l 0 ++ events_after w c (before ++ l ∷ []) ls))) (line_tail before l 0)
      (events_after w c (before ++ l ∷ []) ls) one rest'
    where
      place_same : (a b : List (List ℕ)) (x y : List Event) → a ≡ b → x ≡ y → at_line a [] x ≡ at_line b [] y
      place_same a b x y e f = cc

  -- all lines grow from the start, event by event
  pub lines_grow : (lines : List (List ℕ)) → AreLines p w n lines
      → Leads (interval_steps p w c n) start (events w c lines) (finish w c lines)
  lines_grow lines are = let h = are.count_is in leads_lines lines [] [] (omega arith) are.each
