-- Events that lead from the start to an end are those of the lines there.
use Rattle.std.proofs.Common.{◌≡◌, ℕ, zero, suc, ◌+◌, ◌-◌, ◌%◌, ◌<◌, ◌≤◌, true, false, eqb, ltb, List, [], ◌∷◌, ◌++◌, length, replicate}
use Rattle.std.proofs.Common.{refl, sym, ap, ◌∙◌, subst, arith, inl, inr, append_assoc, length-append}
use Rattle.std.specs.List.{AllByRecursion}
use Rattle.std.proofs.lemmas.List.{append-nil, length-replicate, append_assoc}
use Rattle.std.proofs.Math.Nat.{le_antisymm}
use Rattle.std.proofs.lemmas.Bool.{cases_Bool, eq-eqb, ne_eqb, cases_lt}
use Rattle.jls_values.specs.Params.{CodingParameters}
use Rattle.jls_context.specs.Mode.{is_run_mode}
use Rattle.jls_interval.specs.Events.{Event, regular, run_to_end, interrupted_run, Above, neighbours, above, events_from, run_stop, Stretch}
use Rattle.jls_interval.specs.Events.{stretch, events_after}
use Rattle.jls_interval.specs.Stepwise.{StepwiseCode, Leads, IsEnd}
use Rattle.jls_interval.specs.Growth.{Fits, added, Position, here, IsNext, grown, interval_steps}
use Rattle.jls_interval.proofs.Stretches.{past, more, fits_stretch}

module _ (w k : ℕ) (up : Above) where
  -- a stretch goes past the column at which it begins
  pub stretch_moves : (line : List ℕ) (x : ℕ) → x < w → x < (stretch w k up line x).next
  stretch_moves line x h =
      let v = (neighbours w up line x).ra in
      elim (cases_Bool (is_run_mode (neighbours w up line x))) [
        | inl r ↦ elim (cases_Bool (ltb (run_stop line v x) w)) [ inl s ↦ rw (r, s) (omega arith) | inr s ↦ rw (r, s) h ]
        | inr r ↦
            rw r (omega arith)
      ]

  -- the events from a column on are the same, whatever bound there is, if it is large enough
  pub fuel_same : (f g : ℕ) (line : List ℕ) (x : ℕ) → w ≤ x + f → w ≤ x + g → events_from (stretch w k up line) w f x
      ≡ events_from (stretch w k up line) w g x
  fuel_same zero g line x h j = past w k up zero line x (omega arith) ∙ sym (past w k up g line x (omega arith))
  fuel_same (suc f) zero line x h j = past w k up (suc f) line x (omega arith) ∙ sym (past w k up zero line x (omega arith))
  fuel_same (suc f) (suc g) line x h j =
      elim (cases_lt x w) [
        | inl l ↦ (let m = stretch_moves line x l in
            more w k up f line x l ∙ ap (λ z. (stretch w k up line x).event ∷ z)
            (fuel_same f g line (stretch w k up line x).next (omega arith) (omega arith)) ∙ sym (more w k up g line x l))
        | inr l ↦
            past w k up (suc f) line x l ∙ sym (past w k up (suc g) line x l)
      ]

-- what a line's event leaves of the line: it stays within the width, and its samples within MAXVAL
pub all_append : (P : ℕ → Type 0) (xs ys : List ℕ) → AllByRecursion P xs → AllByRecursion P ys → AllByRecursion P (xs ++ ys)
all_append P [] ys h j = j
all_append P (x ∷ xs) ys h j = (h.0, all_append P xs ys h.1 j)

-- what holds of a value holds of a list of it alone
all_replicate : (P : ℕ → Type 0) (n v : ℕ) → P v → AllByRecursion P (replicate n v)
all_replicate P zero v h = tt
all_replicate P (suc n) v h = (h, all_replicate P n v h)

abbrev pub Small : CodingParameters → List ℕ → Type 0
Small p line = AllByRecursion (λ s. s ≤ p.maxval) line

module _ (p : CodingParameters) (w k : ℕ) (up : Above) where
  -- an event that fits makes the line longer, and at most as long as the width
  pub added_fits : (line : List ℕ) (e : Event) → length line < w → Fits p w k up line (neighbours w up line (length line)) e
      → (length line < length (line ++ added (neighbours w up line (length line)).ra e))
      × (length (line ++ added (neighbours w up line (length line)).ra e) ≤ w)
  added_fits line (regular near sample) l h = let a = length-append line (sample ∷ []) in omega (arith, a)
  added_fits line (run_to_end c count) l h =
      let v = (neighbours w up line (length line)).ra in let a = length-append line (replicate count v) in
      let b = length-replicate count v in let d : length line + count ≡ w = h.2 in omega (arith, a, b)
  added_fits line (interrupted_run c count near sample) l h =
      let v = (neighbours w up line (length line)).ra in let a = length-append line (replicate count v ++ sample ∷ []) in
      let b = length-replicate count v in let d : length line + count < w = h.2 in
      let g = length-append (replicate count v) (sample ∷ []) in
      (omega (arith, a, b, g), omega (arith, a, b, g))

  -- the samples that an event adds are at most MAXVAL
  pub added_small : (line : List ℕ) (e : Event) → (neighbours w up line (length line)).ra ≤ p.maxval
      → Fits p w k up line (neighbours w up line (length line)) e
      → Small p (added (neighbours w up line (length line)).ra e)
  added_small line (regular near sample) v h = (h.2, tt)
  added_small line (run_to_end c count) v h = all_replicate (λ s. s ≤ p.maxval) count (neighbours w up line (length line)).ra v
  added_small line (interrupted_run c count near sample) v h =
      all_append (λ s. s ≤ p.maxval) (replicate count (neighbours w up line (length line)).ra) (sample ∷ [])
      (all_replicate (λ s. s ≤ p.maxval) count (neighbours w up line (length line)).ra v) (h.4, tt)

  -- some event can come where the line isn't whole
  pub some_fits : (line : List ℕ) → length line < w → (e : Event) × Fits p w k up line (neighbours w up line (length line)) e
  some_fits line l =
      elim (cases_Bool (is_run_mode (neighbours w up line (length line)))) [
        | inl r ↦ (run_to_end k (w - length line), (r, refl, omega arith))
        | inr r ↦
            (regular (neighbours w up line (length line)) 0, (r, refl, omega arith))
      ]

  -- the events of a line, with enough fuel
  abbrev pub line_events_from : List ℕ → ℕ → List Event
  line_events_from line x = events_from (stretch w k up line) w w x

  -- an event that fits is the first of each finished line that begins so
  pub events_from_first : (line rest : List ℕ) (e : Event) → length line < w
      → length line + length (added (neighbours w up line (length line)).ra e) + length rest ≡ w
      → Fits p w k up line (neighbours w up line (length line)) e
      → line_events_from (line ++ (added (neighbours w up line (length line)).ra e ++ rest)) (length line) ≡ e
      ∷ line_events_from (line ++ (added (neighbours w up line (length line)).ra e ++ rest))
      (length line + length (added (neighbours w up line (length line)).ra e))
  events_from_first line rest e l h fits =
      let whole = line ++ (added (neighbours w up line (length line)).ra e ++ rest) in let x = length line in
      let s = fits_stretch w k up p line rest e h fits in
      fuel_same w k up w (suc w) whole x (omega arith) (omega arith) ∙ more w k up w whole x l
      ∙ ap (λ (z : Stretch). z.event ∷ events_from (stretch w k up whole) w w z.next) s

module _ (p : CodingParameters) (w k : ℕ) (up : Above) where
  -- the last event of a line
  pub events_from_last : (line : List ℕ) (e : Event) → length line < w
      → length (line ++ added (neighbours w up line (length line)).ra e) ≡ w
      → Fits p w k up line (neighbours w up line (length line)) e
      → line_events_from p w k up (line ++ added (neighbours w up line (length line)).ra e) (length line) ≡ e ∷ []
  events_from_last line e l h fits =
      let a = added (neighbours w up line (length line)).ra e in let la = length-append line a in
      let t = events_from_first p w k up line [] e l (omega (arith, la)) fits in
      let u : line_events_from p w k up (line ++ a) (length line) ≡ e ∷ line_events_from p w k up (line ++ a) (length line + length a) =
      subst (λ z. line_events_from p w k up (line ++ z) (length line) ≡ e
      ∷ line_events_from p w k up (line ++ z) (length line + length a)) (append-nil a) t in
      u ∙ ap (λ z. e ∷ z) (past w k up w (line ++ a) (length line + length a) (omega (arith, la)))

  -- an event that isn't the last one
  pub events_from_next : (line rest whole : List ℕ) (e : Event) → length line < w
      → whole ≡ (line ++ added (neighbours w up line (length line)).ra e) ++ rest → length whole ≡ w
      → Fits p w k up line (neighbours w up line (length line)) e
      → line_events_from p w k up whole (length line) ≡ e
      ∷ line_events_from p w k up whole (length (line ++ added (neighbours w up line (length line)).ra e))
  events_from_next line rest whole e l b h fits =
      let a = added (neighbours w up line (length line)).ra e in let la = length-append line a in
      let shape : line ++ (a ++ rest) ≡ whole = sym (append_assoc line a rest) ∙ sym b in
      let lw = length-append (line ++ a) rest in let lb = ap length b in
      let t = events_from_first p w k up line rest e l (omega (arith, la, lw, lb)) fits in
      let u : line_events_from p w k up whole (length line) ≡ e ∷ line_events_from p w k up whole (length line + length a) =
      subst (λ z. line_events_from p w k up z (length line) ≡ e ∷ line_events_from p w k up z (length line + length a)) shape t in
      u ∙ ap (λ z. e ∷ line_events_from p w k up whole z) (sym la)

module _ (p : CodingParameters) (w c n : ℕ) (some : 0 < w) where
  abbrev pub m : StepwiseCode
  m = interval_steps p w c n

  -- the lines that these events finish, from a place on
  pub record Ends (lines : List (List ℕ)) (line : List ℕ) (es : List Event) (z : Position) : Type 0 where
    pub first : List ℕ
    pub others : List (List ℕ)
    pub rest : List ℕ
    pub lines_are : z.lines ≡ lines ++ first ∷ others
    pub line_is : z.line ≡ []
    pub begins : first ≡ line ++ rest
    pub wide : length first ≡ w
    pub others_wide : AllByRecursion (λ l. length l ≡ w) others
    pub number : length z.lines ≡ n
    pub events_are : es ≡ line_events_from p w (length lines % c) (above c lines) first (length line)
        ++ events_after w c (lines ++ first ∷ []) others

  pub grown_full : (lines : List (List ℕ)) (line : List ℕ) (earlier : List Event) → length line ≡ w → grown w lines line earlier
      ≡ record { lines = lines ++ line ∷ []; line = []; earlier = earlier }
  grown_full lines line earlier h = let t : eqb (length line) w ≡ true = eq-eqb (length line) w h in rw t

  pub grown_part : (lines : List (List ℕ)) (line : List ℕ) (earlier : List Event) → length line < w → grown w lines line earlier
      ≡ record { lines = lines; line = line; earlier = earlier }
  grown_part lines line earlier h = let t : eqb (length line) w ≡ false = ne_eqb (length line) w (λ e. omega arith) in rw t

  -- the event grows the line
  grown_on : (e : Event) (es : List Event) (s z : Position) → length s.line < w
      → Fits p w (length s.lines % c) (above c s.lines) s.line (here w c s) e
      → Ends s.lines (s.line ++ added (here w c s).ra e) es z → Ends s.lines s.line (e ∷ es) z
  grown_on e es s z b fits r =
      let k = length s.lines % c in let up = above c s.lines in let a = added (here w c s).ra e in
      record {
        first = r.first;
        others = r.others;
        rest = a ++ r.rest;
        lines_are = r.lines_are;
        line_is = r.line_is;
        begins = r.begins ∙ append_assoc s.line a r.rest;
        wide = r.wide;
        others_wide = r.others_wide;
        number = r.number;
        events_are = ap (λ z. e ∷ z) r.events_are
            ∙ ap (λ z. z ++ events_after w c (s.lines ++ r.first ∷ []) r.others)
            (sym (events_from_next p w k up s.line r.rest r.first e b r.begins r.wide fits));
      }

  -- the event ends the line, and another line follows
  next_line : (e : Event) (es : List Event) (s z : Position) → length s.line < w
      → Fits p w (length s.lines % c) (above c s.lines) s.line (here w c s) e
      → length (s.line ++ added (here w c s).ra e) ≡ w → Ends (s.lines ++ (s.line ++ added (here w c s).ra e) ∷ []) [] es z
      → Ends s.lines s.line (e ∷ es) z
  unfolding events_after
  next_line e es s z b fits h r =
      let k = length s.lines % c in let up = above c s.lines in let line' = s.line ++ added (here w c s).ra e in
      record {
        first = line';
        others = r.first ∷ r.others;
        rest = added (here w c s).ra e;
        lines_are = r.lines_are ∙ append_assoc s.lines (line' ∷ []) (r.first ∷ r.others);
        line_is = r.line_is;
        begins = refl;
        wide = h;
        others_wide = (r.wide, r.others_wide);
        number = r.number;
        events_are = ap (λ z. e ∷ z) r.events_are
            ∙ ap (λ z. z ++ events_after w c (s.lines ++ line' ∷ []) (r.first ∷ r.others))
            (sym (events_from_last p w k up s.line e b h fits));
      }

  pub no_more : (es : List Event) (s z : Position) → n ≤ length s.lines → Leads m s es z → (es ≡ []) × (s ≡ z)
  no_more [] s z h l = (refl, l)
  no_more (e ∷ es) s z h l = let q = l.0.0 in absurd (omega (arith, q))

  -- the event ends the last line
  last_line : (e : Event) (es : List Event) (s z : Position) → length s.lines < n → length s.line < w
      → Fits p w (length s.lines % c) (above c s.lines) s.line (here w c s) e
      → length (s.line ++ added (here w c s).ra e) ≡ w → n ≤ length (s.lines ++ (s.line ++ added (here w c s).ra e) ∷ [])
      → Leads m (record { lines = s.lines ++ (s.line ++ added (here w c s).ra e) ∷ []; line = []; earlier = s.earlier ++ e ∷ [] }) es z
      → Ends s.lines s.line (e ∷ es) z
  unfolding events_after
  last_line e es s z a b fits h j l =
      let k = length s.lines % c in let up = above c s.lines in let line' = s.line ++ added (here w c s).ra e in
      let q = no_more es (record { lines = s.lines ++ line' ∷ []; line = []; earlier = s.earlier ++ e ∷ [] }) z j l in
      let la = length-append s.lines (line' ∷ []) in let zl : z.lines ≡ s.lines ++ line' ∷ [] = ap (λ (v : Position). v.lines) (sym q.1) in
      record {
        first = line';
        others = [];
        rest = added (here w c s).ra e;
        lines_are = zl;
        line_is = ap (λ (v : Position). v.line) (sym q.1);
        begins = refl;
        wide = h;
        others_wide = tt;
        number = ap length zl ∙ (let g : length (s.lines ++ line' ∷ []) ≡ n = omega (arith, la) in g);
        events_are = ap (λ z. e ∷ z) q.0
            ∙ ap (λ z. z ++ events_after w c (s.lines ++ line' ∷ []) []) (sym (events_from_last p w k up s.line e b h fits));
      }

  -- events that lead from a place to an end are the events of the lines from there on
  pub ends : (es : List Event) (s z : Position) → length s.lines < n → length s.line < w → Leads m s es z → IsEnd m z
      → Ends s.lines s.line es z
  ends [] s z a b l end = let e = some_fits p w (length s.lines % c) (above c s.lines) s.line b in
      absurd (end e.0 (subst (λ v. IsNext p w c n v e.0) l (a, e.1)))
  ends (e ∷ es) s z a b l end =
      let k = length s.lines % c in let up = above c s.lines in
      let line' = s.line ++ added (here w c s).ra e in let af = added_fits p w k up s.line e b l.0.1 in
      elim (cases_lt (length line') w) [
        | inl h ↦ (let r = ends es (record { lines = s.lines; line = line'; earlier = s.earlier ++ e ∷ [] }) z a h
            (subst (λ v. Leads m v es z) (grown_part s.lines line' (s.earlier ++ e ∷ []) h) l.1) end in grown_on e es s z b l.0.1 r)
        | inr h ↦
            (let le = le_antisymm af.1 h in let l' = subst (λ v. Leads m v es z) (grown_full s.lines line' (s.earlier ++ e ∷ []) le) l.1 in
            elim (cases_lt (length (s.lines ++ line' ∷ [])) n) [
              | inl j ↦ next_line e es s z b l.0.1 le
                  (ends es (record { lines = s.lines ++ line' ∷ []; line = []; earlier = s.earlier ++ e ∷ [] }) z j some l' end)
              | inr j ↦
                  last_line e es s z a b l.0.1 le j l'
            ])
      ]
