-- No code of lines begins another's of the same number and width.
use Rattle.std.proofs.Common.{◌≡◌, ℕ, zero, suc, ◌%◌, ◌<◌, ◌≤◌, Bool, eqb, List, [], ◌∷◌, ◌++◌, length, refl, sym, ap, ◌∙◌, subst, arith}
use Rattle.std.proofs.Common.{inl, inr}
use Rattle.std.specs.List.{AllByRecursion}
use Rattle.std.proofs.lemmas.Bool.{cases_Bool}
use Rattle.jls_values.specs.Params.{AreCodingParameters}
use Rattle.jls_values.specs.Params.{CodingParameters}
use Rattle.jls_interval.specs.Events.{Event, Above, neighbours, above, events}
use Rattle.jls_interval.specs.Code.{event_bits, bits_of_events, code}
use Rattle.jls_interval.specs.Stepwise.{Leads, bits_of_steps, IsEnd, IsKept}
use Rattle.jls_interval.specs.Growth.{added, Position, HasSamples, here, grown, moved, interval_steps, start, finish}
use Rattle.jls_interval.specs.Lines.{AreLines}
use Rattle.jls_interval.proofs.StepwiseCodes.{one_code, one_place}
use Rattle.jls_interval.proofs.GrownLines.{added_small, all_append, Small}
use Rattle.jls_interval.proofs.LinesGrow.{lines_grow}
use Rattle.jls_interval.proofs.EventsApart.{events_apart, small_back, small_get}

pub grown_earlier : (w : ℕ) (lines : List (List ℕ)) (line : List ℕ) (earlier : List Event) → (grown w lines line earlier).earlier ≡ earlier
grown_earlier w lines line earlier = elim (cases_Bool (eqb (length line) w)) [ inl h ↦ rw h refl | inr h ↦ rw h refl ]

lines_append : (p : CodingParameters) (xs : List (List ℕ)) (x : List ℕ) → AllByRecursion (λ l. Small p l) xs → Small p x
    → AllByRecursion (λ l. Small p l) (xs ++ x ∷ [])
lines_append p [] x h j = (j, tt)
lines_append p (y ∷ ys) x h j = (h.0, lines_append p ys x h.1 j)

grown_samples : (p : CodingParameters) (w : ℕ) (lines : List (List ℕ)) (line : List ℕ) (earlier : List Event)
    → AllByRecursion (λ l. Small p l) lines → Small p line → HasSamples p (grown w lines line earlier)
grown_samples p w lines line earlier h j =
    elim (cases_Bool (eqb (length line) w)) [ inl e ↦ rw e (lines_append p lines line h j, tt) | inr e ↦ rw e (h, j) ]

-- Ra is at most MAXVAL, if the samples round it are
pub a_small : (p : CodingParameters) (w : ℕ) (up : Above) (line : List ℕ) (x : ℕ) → Small p up.line_above → Small p line
    → (neighbours w up line x).ra ≤ p.maxval
a_small p w up line zero h j = small_get up.line_above 0 p.maxval h
a_small p w up line (suc x) h j = small_get line x p.maxval j

module _ (p : CodingParameters) (w c n : ℕ) where
  -- an event that can come next leaves samples of at most MAXVAL
  pub kept : IsKept (interval_steps p w c n)
  kept s e sound next =
      let up = above c s.lines in let v = (here w c s).ra in
      let small = added_small p w (length s.lines % c) up s.line e
      (a_small p w up s.line (length s.line) (small_back p s.lines c sound.0) sound.1) next.1 in
      grown_samples p w s.lines (s.line ++ added v e) (s.earlier ++ e ∷ []) sound.0
      (all_append (λ x. x ≤ p.maxval) s.line (added v e) sound.1 small)

  -- the bits of steps are the bits of their events
  bits_is : (es : List Event) (s : Position) → bits_of_steps (interval_steps p w c n) s es ≡ bits_of_events p s.earlier es
  unfolding bits_of_events
  bits_is [] s = refl
  bits_is (e ∷ es) s =
      let r = bits_is es (moved w c s e) in
      ap (λ z. event_bits p s.earlier e ++ z)
      (r ∙ ap (λ z. bits_of_events p z es) (grown_earlier w s.lines (s.line ++ added (here w c s).ra e) (s.earlier ++ e ∷ [])))

  pub code_is : (lines : List (List ℕ)) → code p w c lines ≡ bits_of_steps (interval_steps p w c n) start (events w c lines)
  unfolding code
  code_is lines = sym (bits_is (events w c lines) start)

  pub finished : (lines : List (List ℕ)) → length lines ≡ n → IsEnd (interval_steps p w c n) (finish w c lines)
  finished lines h e next = let l : length lines < n = next.0 in omega arith

-- two lists of lines of one shape whose codes begin the same bits are one, and the rest of the bits is the same
pub codes_apart : (p : CodingParameters) (w c n : ℕ) → AreCodingParameters p → 0 < w → (xs ys : List (List ℕ)) (s t : List Bool)
    → AreLines p w n xs → AreLines p w n ys
    → code p w c xs ++ s ≡ code p w c ys ++ t → (xs ≡ ys) × (s ≡ t)
codes_apart p w c n ok some xs ys s t a b e =
    let free = events_apart p w c n ok in
    let r = one_code (interval_steps p w c n) free (kept p w c n) start (finish w c xs) (finish w c ys) (events w c xs) (events w c ys) s t
    (tt, tt) (lines_grow p w c n some xs a) (lines_grow p w c n some ys b) (finished p w c n xs a.count_is)
    (finished p w c n ys b.count_is) (ap (λ z. z ++ s) (sym (code_is p w c n xs)) ∙ e ∙ ap (λ z. z ++ t) (code_is p w c n ys)) in
    (same_lines r.0, r.1)
  where
    same_lines : events w c xs ≡ events w c ys → xs ≡ ys
    same_lines h =
        ap (λ (z : Position). z.lines)
        (one_place (interval_steps p w c n) (events w c ys) start (finish w c xs) (finish w c ys)
        (subst (λ z. Leads (interval_steps p w c n) start z (finish w c xs)) h (lines_grow p w c n some xs a))
        (lines_grow p w c n some ys b))
