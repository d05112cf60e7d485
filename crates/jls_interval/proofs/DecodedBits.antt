-- What a decoder that goes event by event keeps, and what follows at its ends.
use Rattle.std.proofs.Common.{◌≡◌, ℕ, ◌%◌, ◌<◌, ◌≤◌, Bool, List, [], ◌∷◌, ◌++◌, length, sym, ap, ◌∙◌, subst, arith, inl, inr, append_assoc}
use Rattle.std.specs.List.{AllByRecursion}
use Rattle.std.proofs.lemmas.Bool.{cases_lt}
use Rattle.jls_values.specs.Params.{CodingParameters}
use Rattle.jls_interval.specs.Events.{Event, above, events, events_after}
use Rattle.jls_interval.specs.Code.{event_bits, code}
use Rattle.jls_interval.specs.Lines.{IsLine, AreLines}
use Rattle.jls_interval.specs.Stepwise.{Leads, bits_of_steps, IsEnd}
use Rattle.jls_interval.specs.Growth.{added, Position, HasSamples, here, IsNext, moved, interval_steps, start}
use Rattle.jls_interval.proofs.StepwiseCodes.{leads_more, bits_more}
use Rattle.jls_interval.proofs.GrownLines.{ends, Small, added_fits, grown_full, grown_part}
use Rattle.jls_interval.proofs.CodesApart.{kept, code_is, grown_earlier}

-- What was read of the given bits: the events so far lead to a position inside a line, and these bits are unread.
pub record Decoded (p : CodingParameters) (w c n : ℕ) (given : List Bool) (z : Position) (left : List Bool) : Type 0 where
  pub leads : Leads (interval_steps p w c n) start z.earlier z
  pub bits_are : given ≡ bits_of_steps (interval_steps p w c n) start z.earlier ++ left
  pub samples : HasSamples p z
  pub unfinished : length z.line < w

module _ (p : CodingParameters) (w c n : ℕ) (some : 0 < w) where
  -- after an event that can come next, the line in work has room again, or is the next one
  pub moved_open : (z : Position) (e : Event) → length z.line < w → IsNext p w c n z e → length (moved w c z e).line < w
  moved_open z e o a =
      let line = z.line ++ added (here w c z).ra e in let es = z.earlier ++ e ∷ [] in
      let f = added_fits p w (length z.lines % c) (above c z.lines) z.line e o a.1 in
      elim (cases_lt (length line) w) [
        | inl h ↦ subst (λ (v : Position). length v.line < w) (sym (grown_part p w c n some z.lines line es h)) h
        | inr h ↦
            (let q : length line ≡ w = omega arith in
            subst (λ (v : Position). length v.line < w) (sym (grown_full p w c n some z.lines line es q)) some)
      ]

  -- an event that is read
  pub decoded_more : (given : List Bool) (z : Position) (left left' : List Bool) (e : Event) → Decoded p w c n given z left
      → IsNext p w c n z e → left ≡ event_bits p z.earlier e ++ left'
      → Decoded p w c n given (moved w c z e) left'
  decoded_more given z left left' e d a b =
      let m = interval_steps p w c n in let ge = grown_earlier w z.lines (z.line ++ added (here w c z).ra e) (z.earlier ++ e ∷ []) in
      record {
        leads = subst (λ v. Leads m start v (moved w c z e)) (sym ge) (leads_more m start z z.earlier e d.leads a);
        bits_are = d.bits_are ∙ ap (λ v. bits_of_steps m start z.earlier ++ v) b
            ∙ sym (append_assoc (bits_of_steps m start z.earlier) (event_bits p z.earlier e) left')
            ∙ ap (λ v. v ++ left') (sym (bits_more m start z z.earlier e d.leads)) ∙ ap (λ v. bits_of_steps m start v ++ left') (sym ge);
        samples = kept p w c n z e d.samples a;
        unfinished = moved_open z e d.unfinished a;
      }

  pub all_lines : (ls : List (List ℕ)) → AllByRecursion (λ l. length l ≡ w) ls → AllByRecursion (λ l. Small p l) ls
      → AllByRecursion (IsLine p w) ls
  all_lines [] h j = tt
  all_lines (l ∷ ls) h j = ((h.0, j.0), all_lines ls h.1 j.1)

  -- at the end the lines are those that the given begin with
  pub decoded_end : (given : List Bool) (z : Position) (left : List Bool) → 0 < n → Decoded p w c n given z left → n ≤ length z.lines
      → AreLines p w n z.lines × (given ≡ code p w c z.lines ++ left)
  unfolding events_after
  decoded_end given z left any d h =
      let m = interval_steps p w c n in
      let over : IsEnd m z = λ e a. let l : length z.lines < n = a.0 in omega arith in
      let r = ends p w c n some z.earlier start z any some d.leads over in
      let wide : AllByRecursion (λ l. length l ≡ w) z.lines =
      subst (λ v. AllByRecursion (λ l. length l ≡ w) v) (sym r.lines_are) (r.wide, r.others_wide) in
      let es : z.earlier ≡ events w c z.lines = r.events_are ∙ ap (λ v. events w c v) (sym r.lines_are) in (
        record { count_is = r.number; each = all_lines z.lines wide d.samples.0 },
        d.bits_are ∙ ap (λ v. bits_of_steps m start v ++ left) es
            ∙ ap (λ v. v ++ left) (sym (code_is p w c n z.lines)),
      )
