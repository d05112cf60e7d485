-- What a decoder that is given a few bits at a time keeps, through each of its steps.
use Rattle.std.proofs.Common.{◌≡◌, ℕ, ◌%◌, ◌<◌, ◌≤◌, Bool, List, [], ◌∷◌, ◌++◌, length, get_or, refl, sym, ap, ◌∙◌, subst, arith}
use Rattle.std.proofs.Common.{append_assoc}
use Rattle.std.proofs.lemmas.List.{append-nil}
use Rattle.jls_values.specs.Params.{CodingParameters, AreCodingParameters}
use Rattle.jls_context.specs.Variables.{Variables, initial_variables}
use Rattle.jls_bits.specs.Bits.{bits_read}
use Rattle.jls_bits.proofs.DataBits.{data_end}
use Rattle.jls_interval.specs.Events.{Event, above, events}
use Rattle.jls_interval.specs.Code.{event_bits}
use Rattle.jls_interval.specs.Growth.{Position, IsNext, grown, moved, interval_steps, start, finish}
use Rattle.jls_interval.specs.PieceFaults.{NoLines}
use Rattle.jls_interval.specs.OpenEvents.{NoEvent, OpenEventAt, EventDone}
use Rattle.jls_interval.specs.Decoding.{IsWorking, IsComplete, BeginsNoCode}
use Rattle.jls_interval.specs.declared.line_reader.OpenEvent.{OpenEvent}
use Rattle.jls_interval.specs.declared.line_reader.OpenEvent.TheVariants.{NotBegun}
use Rattle.jls_interval.proofs.StepwiseCodes.{refused}
use Rattle.jls_interval.proofs.GrownLines.{some_fits, grown_full, grown_part}
use Rattle.jls_interval.proofs.LinesGrow.{lines_grow}
use Rattle.jls_interval.proofs.EventsApart.{events_apart, small_back}
use Rattle.jls_interval.proofs.CodesApart.{kept, code_is, finished}
use Rattle.jls_interval.proofs.DecodedBits.{Decoded, decoded_more, decoded_end}
use Rattle.jls_interval.proofs.CutEvents.{decoded_with, event_some}
use Rattle.jls_interval.proofs.AfterEvents.{after_none}
use Rattle.jls_interval.proofs.OpenEventBits.{open_event_none}

module _ (p : CodingParameters) (ok : AreCodingParameters p) (w c n : ℕ) (some : 0 < w) (given : List Bool) (lines : List (List ℕ))
    (line : List ℕ) (cells : Variables) (run_indices : List ℕ) (open_event : OpenEvent)
    (h : IsWorking p w c n given lines line cells run_indices open_event) where
  abbrev z : Position
  z = record { lines = lines; line = line; earlier = h.earlier }

  decoded : Decoded p w c n given z h.fed
  decoded = record { leads = h.leads; bits_are = h.bits_are; samples = h.samples; unfinished = h.unfinished }

  -- where no event that can come next stands at the start of what was fed, no lines' code begins the bits
  stuck : (more : List Bool) → NoEvent p w (length lines % c) (above c lines) line (h.fed ++ more) h.earlier
      → NoLines p w c n (given ++ more)
  stuck more none = λ ls rest are e.
      let d = decoded_with p w c n some given z h.fed more decoded in
      let x = some_fits p w (length lines % c) (above c lines) line h.unfinished in
      refused (interval_steps p w c n) (events_apart p w c n ok) (kept p w c n) start z (finish w c ls) h.earlier (events w c ls)
      (h.fed ++ more) rest (tt, tt) h.leads (lines_grow p w c n some ls are) (finished p w c n ls are.count_is) x.0 (h.few, x.1)
      (λ ev m next q. none ev m next.1 q) (sym d.bits_are ∙ e ∙ ap (λ v. v ++ rest) (code_is p w c n ls))

  -- a refused step: no bits that come later make it a code
  pub working_refused : (taken : List Bool)
      → ((more : List Bool) → NoEvent p w (length lines % c) (above c lines) line ((h.fed ++ taken) ++ more) h.earlier)
      → BeginsNoCode p w c n (given ++ taken)
  working_refused taken none = λ more.
      subst (NoLines p w c n) (sym (append_assoc given taken more))
      (stuck (taken ++ more) (subst (λ v. NoEvent p w (length lines % c) (above c lines) line v h.earlier) (append_assoc h.fed taken more)
      (none more)))

  -- what was fed is no whole event
  none_whole : NoEvent p w (length lines % c) (above c lines) line h.fed h.earlier
  none_whole =
      open_event_none p ok w (length lines % c) (above c lines) (small_back p lines c h.samples.0) line h.unfinished cells run_indices
      h.earlier h.is_after (λ e fits. event_some p w c n z e h.unfinished (h.few, fits)) open_event h.fed h.open_event_at

  -- the end of the input while lines are still to come
  pub working_ends : NoLines p w c n given
  working_ends =
      subst (NoLines p w c n) (append-nil given)
      (stuck [] (subst (λ v. NoEvent p w (length lines % c) (above c lines) line v h.earlier) (sym (append-nil h.fed)) none_whole))

  -- more bits of the event in hand
  pub working_more : (taken : List Bool) (open_event' : OpenEvent)
      → OpenEventAt p w (above c lines) line cells (get_or run_indices (length lines % c) 0) open_event' (h.fed ++ taken)
      → IsWorking p w c n (given ++ taken) lines line cells run_indices open_event'
  working_more taken open_event' at = record {
    earlier = h.earlier;
    fed = h.fed ++ taken;
    leads = h.leads;
    bits_are = (decoded_with p w c n some given z h.fed taken decoded).bits_are;
    samples = h.samples;
    unfinished = h.unfinished;
    few = h.few;
    is_after = h.is_after;
    open_event_at = at;
  }

  -- an event is whole
  module _ (taken : List Bool) (line' : List ℕ) (cells' : Variables) (run_indices' : List ℕ)
      (m : EventDone p w (length lines % c) (above c lines) line line' cells' run_indices' (h.fed ++ taken) h.earlier) where
    -- bits were taken for it
    pub working_takes : 0 < length taken
    working_takes = some_taken taken m.bits_are
      where
        some_taken : (xs : List Bool) → h.fed ++ xs ≡ event_bits p h.earlier m.event → 0 < length xs
        some_taken [] e = absurd (none_whole m.event [] m.fits
            (sym (append-nil h.fed) ∙ e ∙ sym (append-nil (event_bits p h.earlier m.event))))
        some_taken (x ∷ xs) e = omega arith

    abbrev later : List Event
    later = h.earlier ++ m.event ∷ []

    next : IsNext p w c n z m.event
    next = (h.few, m.fits)

    after : Decoded p w c n (given ++ taken) (moved w c z m.event) []
    after =
        decoded_more p w c n some (given ++ taken) z (h.fed ++ taken) [] m.event (decoded_with p w c n some given z h.fed taken decoded)
        next (m.bits_are ∙ sym (append-nil (event_bits p h.earlier m.event)))

    -- in these lines and this one, of which no bit was fed
    working_next : (ls : List (List ℕ)) (l : List ℕ)
        → Decoded p w c n (given ++ taken) (record { lines = ls; line = l; earlier = later }) []
        → length ls < n → IsWorking p w c n (given ++ taken) ls l cells' run_indices' NotBegun
    working_next ls l d few = record {
      earlier = later;
      fed = [];
      leads = d.leads;
      bits_are = d.bits_are;
      samples = d.samples;
      unfinished = d.unfinished;
      few = few;
      is_after = m.is_after;
      open_event_at = refl;
    }

    -- after a whole event the line goes on, if it is not full
    pub working_on : length line' < w → IsWorking p w c n (given ++ taken) lines line' cells' run_indices' NotBegun
    working_on short =
        let at : moved w c z m.event ≡ record { lines = lines; line = line'; earlier = later } =
        ap (λ v. grown w lines v later) (sym m.line_is) ∙ grown_part p w c n some lines line' later short in
        working_next lines line' (subst (λ v. Decoded p w c n (given ++ taken) v []) at after) h.few

    full : length line' ≡ w → Decoded p w c n (given ++ taken) (record { lines = lines ++ line' ∷ []; line = []; earlier = later }) []
    full whole =
        subst (λ v. Decoded p w c n (given ++ taken) v [])
        (ap (λ v. grown w lines v later) (sym m.line_is) ∙ grown_full p w c n some lines line' later whole) after

    -- after a whole event that fills the line, the next line begins, if lines are still to come
    pub working_line : length line' ≡ w → length (lines ++ line' ∷ []) < n
        → IsWorking p w c n (given ++ taken) (lines ++ line' ∷ []) [] cells' run_indices' NotBegun
    working_line whole few = working_next (lines ++ line' ∷ []) [] (full whole) few

    -- after a whole event that fills the last line, all lines are there
    pub working_over : length line' ≡ w → n ≤ length (lines ++ line' ∷ []) → IsComplete p w c n (given ++ taken) (lines ++ line' ∷ []) 0
    working_over whole all =
        let r = decoded_end p w c n some (given ++ taken) (record { lines = lines ++ line' ∷ []; line = []; earlier = later }) []
        (let f = h.few in omega arith) (full whole) all in
        record { unread = []; are_lines = r.0; begins = r.1; counted = refl }

-- more bits after the last line, and after what begins no lines' code
pub no_code_more : (p : CodingParameters) (w c n : ℕ) (given more : List Bool) → BeginsNoCode p w c n given
    → BeginsNoCode p w c n (given ++ more)
no_code_more p w c n given more h = λ later. subst (NoLines p w c n) (sym (append_assoc given more later)) (h (more ++ later))

-- no bit
pub working_start : (p : CodingParameters) (w c n : ℕ) → 0 < w → 0 < n → (cells : Variables) (run_indices : List ℕ)
    → cells ≡ initial_variables p → ((component : ℕ) → get_or run_indices component 0 ≡ 0)
    → IsWorking p w c n (bits_read []) [] [] cells run_indices NotBegun
working_start p w c n some any cells run_indices e zeros = record {
  earlier = [];
  fed = [];
  leads = refl;
  bits_are = data_end 0;
  samples = (tt, tt);
  unfinished = some;
  few = any;
  is_after = after_none p cells run_indices e zeros;
  open_event_at = refl;
}
