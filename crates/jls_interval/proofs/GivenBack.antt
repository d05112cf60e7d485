-- Bits of an event that isn't whole, given back to be taken once more.
use Rattle.std.proofs.Common.{◌≡◌, ℕ, ◌+◌, ◌%◌, ◌^◌, ◌<◌, ◌≤◌, Bool, List, [], ◌∷◌, ◌++◌, length, get_or, refl, sym, ap, ◌∙◌, subst}
use Rattle.std.proofs.Common.{arith, inl, inr, length-append}
use Rattle.std.proofs.lemmas.List.{append-nil}
use Rattle.std.proofs.lemmas.Bool.{cases_lt}
use Rattle.jls_values.specs.Params.{CodingParameters, limit, qbpp}
use Rattle.jls_context.specs.Variables.{Variables}
use Rattle.jls_bits.specs.CodeState.{bits_fed, IsOpen}
use Rattle.jls_bits.specs.declared.code_state.CodeState.{CodeState}
use Rattle.jls_interval.specs.Events.{Event, above}
use Rattle.jls_interval.specs.Code.{event_bits}
use Rattle.jls_interval.specs.Stepwise.{Leads, bits_of_steps}
use Rattle.jls_interval.specs.Growth.{Position, added, here, IsNext, moved, interval_steps, start}
use Rattle.jls_interval.specs.OpenEvents.{OpenEventAt}
use Rattle.jls_interval.specs.Decoding.{IsReading, GivenBack, StateIs}
use Rattle.jls_interval.specs.declared.line_reader.OpenEvent.TheVariants.{NotBegun, Sample}
use Rattle.jls_interval.specs.declared.interval_reader.State.TheVariants.{Working}
use Rattle.jls_interval.specs.declared.interval_reader.IntervalReader.{IntervalReader}
use Rattle.jls_interval.proofs.GrownLines.{added_fits, grown_full, grown_part}
use Rattle.jls_interval.proofs.DecodedBits.{moved_open}
use Rattle.jls_interval.proofs.CutEvents.{event_some}
use Rattle.jls_interval.proofs.IntervalReading.{working}

module _ (p : CodingParameters) (w c n : ℕ) (some : 0 < w) where
  -- an event finishes one line at most
  one_line : (s : Position) (e : Event) → length s.line < w → IsNext p w c n s e → length (moved w c s e).lines ≤ length s.lines + 1
  one_line s e o a =
      let line = s.line ++ added (here w c s).ra e in let es = s.earlier ++ e ∷ [] in
      let f = added_fits p w (length s.lines % c) (above c s.lines) s.line e o a.1 in let l = length-append s.lines (line ∷ []) in
      elim (cases_lt (length line) w) [
        | inl h ↦ subst (λ (v : Position). length v.lines ≤ length s.lines + 1) (sym (grown_part p w c n some s.lines line es h))
            (omega arith)
        | inr h ↦ subst (λ (v : Position). length v.lines ≤ length s.lines + 1)
            (sym (grown_full p w c n some s.lines line es (omega arith))) (omega arith)
      ]

  some_bit : (xs : List Bool) → (xs ≡ [] → ⊥) → 0 < length xs
  some_bit [] h = absurd (h refl)
  some_bit (x ∷ xs) h = omega arith

  -- no line is finished without a bit of its own
  lines_have_bits : (es : List Event) (s z : Position) → length s.line < w → Leads (interval_steps p w c n) s es z
      → length z.lines ≤ length s.lines + length (bits_of_steps (interval_steps p w c n) s es)
  lines_have_bits [] s z o l = let e = ap (λ (v : Position). length v.lines) l in omega arith
  lines_have_bits (e ∷ es) s z o l =
      let m = interval_steps p w c n in let next : IsNext p w c n s e = l.0 in
      let rest = lines_have_bits es (moved w c s e) z (moved_open p w c n some s e o next) l.1 in let one = one_line s e o next in
      let bit = some_bit (event_bits p s.earlier e) (event_some p w c n s e o next) in
      let sum = length-append (event_bits p s.earlier e) (bits_of_steps m (moved w c s e) es) in omega arith

module _ (p : CodingParameters) (given : List Bool) (d : IntervalReader) (h : IsReading p given d) (is : d.state ≡ Working) where
  -- the first bits of a sample are an open code
  pub sample_open : (code : CodeState) → d.reader.open_event ≡ Sample code → (k : ℕ) × IsOpen k (limit p) (qbpp p) code
  sample_open code open_event =
      let x = working p d given h is in let L = d.lines in
      let at = subst (λ z. OpenEventAt p d.reader.width (above d.components L) d.reader.line.items d.reader.coder.cells
      (get_or d.reader.coder.run_indices (length L % d.components) 0) z x.fed) open_event x.open_event_at in (_, at.1)

  -- a sample that isn't whole
  pub sample_back : (code : CodeState) → d.reader.open_event ≡ Sample code → (chunk : List Bool) → chunk ≡ bits_fed (limit p) (qbpp p) code
      → (short : d.reader.width < 2 ^ 16)
      → GivenBack p given (record d { reader = record d.reader { open_event = NotBegun; width_below = short } }) chunk
  sample_back code open_event chunk is_fed short =
      let w : ℕ = d.reader.width in let k : ℕ = d.components in let L = d.lines in let line : List ℕ = d.reader.line.items in
      let cells : Variables = d.reader.coder.cells in let ri : List ℕ = d.reader.coder.run_indices in
      let x = working p d given h is in let m = interval_steps p w k d.count in let before = bits_of_steps m start x.earlier in
      let at = subst (λ z. OpenEventAt p w (above k L) line cells (get_or ri (length L % k) 0) z x.fed) open_event x.open_event_at in
      let paid = lines_have_bits p w k d.count h.width_at_least x.earlier start (record { lines = L; line = line; earlier = x.earlier })
      h.width_at_least x.leads in
      record {
        before = before;
        given_is = x.bits_are ∙ ap (λ z. before ++ z) (at.2 ∙ sym is_fed);
        reading = record {
          parameters = h.parameters;
          width_at_least = h.width_at_least;
          components_at_least = h.components_at_least;
          components_at_most = h.components_at_most;
          lines_at_most = h.lines_at_most;
          lines_paid = omega arith;
          lines_wide = h.lines_wide;
          line_at_most = h.line_at_most;
          state_is = subst (λ s. StateIs p w k d.count before L line cells ri NotBegun s) (sym is)
              (record {
                earlier = x.earlier;
                fed = [];
                leads = x.leads;
                bits_are = sym (append-nil before);
                samples = x.samples;
                unfinished =
                    x.unfinished;
                few = x.few;
                is_after = x.is_after;
                open_event_at = refl;
              });
        };
      }
