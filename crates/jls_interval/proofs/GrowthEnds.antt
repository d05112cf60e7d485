-- Where events lead from the start: what is read there, and the lines at the end.
use Rattle.std.proofs.Common.{◌≡◌, ℕ, ◌<◌, Bool, List, [], ◌∷◌, ◌++◌, length, refl, sym, ap, ◌∙◌, subst, arith, inl, inr, append_assoc}
use Rattle.std.specs.List.{AllByRecursion}
use Rattle.std.proofs.lemmas.List.{append-nil}
use Rattle.std.proofs.lemmas.Bool.{cases_lt}
use Rattle.jls_values.specs.Params.{CodingParameters}
use Rattle.jls_interval.specs.Lines.{AreLines}
use Rattle.jls_interval.specs.Events.{Event, events, events_after}
use Rattle.jls_interval.specs.Code.{event_bits}
use Rattle.jls_interval.specs.Stepwise.{Leads, bits_of_steps, IsEnd}
use Rattle.jls_interval.specs.Growth.{Position, added, here, IsNext, moved, interval_steps, start, finish}
use Rattle.jls_interval.proofs.GrownLines.{ends, no_more}
use Rattle.jls_interval.proofs.CodesApart.{grown_earlier}
use Rattle.jls_interval.proofs.DecodedBits.{Decoded, decoded_more, all_lines}
use Rattle.jls_interval.proofs.CutEvents.{event_some}

module _ (p : CodingParameters) (w c n : ℕ) (some : 0 < w) where
  -- events that are read one after another
  decoded_along : (es : List Event) (given left : List Bool) (s z : Position)
      → Decoded p w c n given s (bits_of_steps (interval_steps p w c n) s es ++ left) → Leads (interval_steps p w c n) s es z
      → Decoded p w c n given z left
  decoded_along [] given left s z d l = subst (λ v. Decoded p w c n given v left) l d
  decoded_along (e ∷ es) given left s z d l =
      let m = interval_steps p w c n in
      decoded_along es given left (moved w c s e) z
      (decoded_more p w c n some given s (bits_of_steps m s (e ∷ es) ++ left) (bits_of_steps m (moved w c s e) es ++ left) e d l.0
      (append_assoc (event_bits p s.earlier e) (bits_of_steps m (moved w c s e) es) left)) l.1

  -- from the start
  pub decoded_from : (es : List Event) (left : List Bool) (z : Position) → Leads (interval_steps p w c n) start es z
      → Decoded p w c n (bits_of_steps (interval_steps p w c n) start es ++ left) z left
  decoded_from es left z l =
      let given = bits_of_steps (interval_steps p w c n) start es ++ left in
      decoded_along es given left start z (record { leads = refl; bits_are = refl; samples = (tt, tt); unfinished = some }) l

  -- events that lead from a place are added to the earlier ones
  earlier_is : (es : List Event) (s z : Position) → Leads (interval_steps p w c n) s es z → z.earlier ≡ s.earlier ++ es
  earlier_is [] s z l = ap (λ (v : Position). v.earlier) (sym l) ∙ sym (append-nil s.earlier)
  earlier_is (e ∷ es) s z l =
      earlier_is es (moved w c s e) z l.1
      ∙ ap (λ v. v ++ es) (grown_earlier w s.lines (s.line ++ added (here w c s).ra e) (s.earlier ++ e ∷ []))
      ∙ append_assoc s.earlier (e ∷ []) es

  position_same : (z : Position) (es : List Event) → z.line ≡ [] → z.earlier ≡ es → z ≡ record { lines = z.lines; line = []; earlier = es }
  position_same z es a b = ap (λ l. record { lines = z.lines; line = l; earlier = z.earlier }) a
      ∙ ap (λ l. record { lines = z.lines; line = []; earlier = l }) b

  -- an end holds the lines whose events lead there
  pub growth_ends : (es : List Event) (z : Position) → Leads (interval_steps p w c n) start es z → IsEnd (interval_steps p w c n) z
      → AreLines p w n z.lines × (z ≡ finish w c z.lines) × (es ≡ events w c z.lines)
  unfolding events_after
  growth_ends es z l over =
      let d = decoded_from es [] z l in
      elim (cases_lt 0 n) [
        | inl any ↦
            (let r = ends p w c n some es start z any some l over in
            let wide : AllByRecursion (λ l. length l ≡ w) z.lines =
            subst (λ v. AllByRecursion (λ l. length l ≡ w) v) (sym r.lines_are) (r.wide, r.others_wide) in
            let is : es ≡ events w c z.lines = r.events_are ∙ ap (λ v. events w c v) (sym r.lines_are) in (
              record { count_is = r.number; each = all_lines p w c n some z.lines wide d.samples.0 },
              position_same z (events w c z.lines) r.line_is (earlier_is es start z l ∙ is),
              is,
            ))
        | inr none ↦
            (let q = no_more p w c n some es start z none l in
            subst (λ v. AreLines p w n v.lines × (v ≡ finish w c v.lines) × (es ≡ events w c v.lines)) q.1
            (record { count_is = omega arith; each = tt }, refl, q.0))
      ]

  -- each event that can come next has a bit
  pub events_some : (es : List Event) (z : Position) (e : Event) → Leads (interval_steps p w c n) start es z → IsNext p w c n z e
      → event_bits p z.earlier e ≡ [] → ⊥
  events_some es z e l a = let d = decoded_from es [] z l in event_some p w c n z e d.unfinished a
