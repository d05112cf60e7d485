-- What a reader of an interval keeps, from what an event made of its line.
use Rattle.std.proofs.Common.{◌≡◌, ℕ, ◌<◌, ◌≤◌, Bool, true, List, [], ◌∷◌, ◌++◌, length, get_or, ◌%◌, refl, sym, ap, ◌∙◌}
use Rattle.std.proofs.Common.{subst, arith, append_assoc, length-append}
use Rattle.std.proofs.lemmas.List.{append-nil}
use Rattle.jls_values.specs.Params.{CodingParameters}
use Rattle.jls_values.specs.Params.{AreCodingParameters}
use Rattle.jls_context.specs.Variables.{Variables}
use Rattle.jls_interval.specs.Events.{Event, Above, above}
use Rattle.jls_interval.specs.After.{IsAfter}
use Rattle.jls_interval.specs.OpenEvents.{NoEvent, OpenEventAt, Holds, EventDone, EventPushed}
use Rattle.jls_interval.specs.Decoding.{IsWorking, BeginsNoCode, StateIs, HaveWidth, IsReading, TakesAllBits, Taken, TakesFirst, TakesEvent}
use Rattle.jls_interval.specs.Decoding.{KeepsShape}
use Rattle.jls_interval.specs.LineSamples.{Works, TakesInLine}
use Rattle.jls_interval.specs.declared.line_reader.OpenEvent.{OpenEvent}
use Rattle.jls_interval.specs.declared.line_reader.OpenEvent.TheVariants.{NotBegun}
use Rattle.jls_interval.specs.declared.line_reader.LineReader.{LineReader}
use Rattle.jls_interval.specs.declared.line_reader.EventStep.{EventStep}
use Rattle.jls_interval.specs.declared.line_reader.EventStep.TheVariants.{More, Moved, Refused}
use Rattle.jls_interval.specs.declared.interval_reader.State.{State}
use Rattle.jls_interval.specs.declared.interval_reader.State.TheVariants.{Working}
use Rattle.jls_interval.proofs.GrownLines.{added_fits}
use Rattle.jls_interval.proofs.Decoding.{working_more, working_refused, no_code_more}
use Rattle.jls_interval.specs.declared.interval_reader.IntervalReader.{IntervalReader}

pub shape_none : (d : IntervalReader) → KeepsShape d d
shape_none d = record { width = refl; components = refl; count = refl }

pub shape_then : (a b c : IntervalReader) → KeepsShape a b → KeepsShape b c → KeepsShape a c
shape_then a b c f g = record { width = g.width ∙ f.width; components = g.components ∙ f.components; count = g.count ∙ f.count }

pub taking_none : (old : IntervalReader) (chunk : List Bool) → TakesFirst old chunk old chunk
taking_none old chunk = λ p given h.
    record { taken = []; chunk_is = refl; reading = subst (λ z. IsReading p z old) (sym (append-nil given)) h }

module _ (old now next : IntervalReader) (chunk unread : List Bool) (t : TakesFirst old chunk now unread) where
  -- taking the first bits of a chunk, and then the first of the rest, is taking the first of all
  pub taking_then : (unread' : List Bool) → TakesFirst now unread next unread' → TakesFirst old chunk next unread'
  taking_then unread' s = λ p given h.
      let a = t p given h in let b = s p (given ++ a.taken) a.reading in
      record {
        taken = a.taken ++ b.taken;
        chunk_is = a.chunk_is ∙ ap (λ z. a.taken ++ z) b.chunk_is ∙ sym (append_assoc a.taken b.taken unread');
        reading = subst (λ z. IsReading p z next) (append_assoc given a.taken b.taken) b.reading;
      }

  pub taking_more : (unread' : List Bool) → TakesEvent now next unread unread' true → TakesFirst old chunk next unread'
  taking_more unread' s =
      taking_then unread' (λ p given h. (let b = s p given h in record { taken = b.taken; chunk_is = b.chunk_is; reading = b.reading }))

  -- taking the first bits of a chunk, and then all of the rest, is taking all of it
  pub taking_all : (none : List Bool) → none ≡ [] → TakesAllBits now next unread → TakesFirst old chunk next none
  taking_all none e s = λ p given h.
      let a = t p given h in
      record {
        taken = chunk;
        chunk_is = sym (ap (λ z. chunk ++ z) e ∙ append-nil chunk);
        reading = subst (λ z. IsReading p z next) (append_assoc given a.taken unread ∙ ap (λ z. given ++ z) (sym a.chunk_is))
            (s p (given ++ a.taken) a.reading);
      }

  -- taking a whole event takes a bit
  pub taking_shorter : (unread' : List Bool) → TakesEvent now next unread unread' true → (p : CodingParameters) (given : List Bool)
      → IsReading p given old → length unread' < length unread
  taking_shorter unread' s p given h =
      let a = t p given h in let b = s p (given ++ a.taken) a.reading in
      let l = b.some in let e = ap length b.chunk_is in let n = length-append b.taken unread' in omega arith

-- no bit comes back
pub taking_fewer : (old new : IntervalReader) (chunk unread : List Bool) → TakesFirst old chunk new unread
    → (p : CodingParameters) (given : List Bool)
    → IsReading p given old → length unread ≤ length chunk
taking_fewer old new chunk unread t p given h =
    let a = t p given h in let e = ap length a.chunk_is in let n = length-append a.taken unread in omega arith

-- One event ------------------------------------------------------------------------------------

-- the lines have a width, which is given in two ways
pub wide_same : (w w' : ℕ) (lines : List (List ℕ)) → w' ≡ w → HaveWidth w lines → HaveWidth w' lines
wide_same w w' lines e h = subst (λ z. HaveWidth z lines) (sym e) h

-- lines of a width have it with a line after them that has it too
pub wide_more : (w : ℕ) (lines : List (List ℕ)) (line : List ℕ) → HaveWidth w lines → length line ≡ w → HaveWidth w (lines ++ line ∷ [])
wide_more w [] line h e = (e, tt)
wide_more w (x ∷ xs) line h e = (h.0, wide_more w xs line h.1 e)

-- a line with one event more is at most as long as the width
pub line_fits : (p : CodingParameters) (w k : ℕ) (up : Above) (line line' : List ℕ) (cells' : Variables) (run_indices' : List ℕ)
    (fed : List Bool) (earlier : List Event)
    → EventDone p w k up line line' cells' run_indices' fed earlier → length line < w → length line' ≤ w
line_fits p w k up line line' cells' run_indices' fed earlier m short =
    let f = added_fits p w k up line m.event short m.fits in let e = ap length m.line_is in omega (arith, f, e)

module _ (p : CodingParameters) (n count : ℕ) (lines : List (List ℕ)) (s : State) where
  -- what a reader's state says stays where lines, bits and variables are the same
  pub state_same : (w w' : ℕ) (given given' : List Bool) (line line' : List ℕ) (cells cells' : Variables) (ri ri' : List ℕ)
      (open_event : OpenEvent)
      → w' ≡ w → given' ≡ given → line' ≡ line → cells' ≡ cells → ri' ≡ ri
      → StateIs p w n count given lines line cells ri open_event s → StateIs p w' n count given' lines line' cells' ri' open_event s
  state_same w w' given given' line line' cells cells' ri ri' open_event a b c d e h =
      subst (λ z. StateIs p z n count given' lines line' cells' ri' open_event s) (sym a)
      (subst (λ z. StateIs p w n count z lines line' cells' ri' open_event s) (sym b)
      (subst (λ z. StateIs p w n count given lines z cells' ri' open_event s) (sym c)
      (subst (λ (z : Variables). StateIs p w n count given lines line z ri' open_event s) (sym d)
      (subst (λ z. StateIs p w n count given lines line cells z open_event s) (sym e) h))))

-- what the state says of the bits
pub state_of : (p : CodingParameters) (d : IntervalReader) (given : List Bool) → IsReading p given d → (s : State) → d.state ≡ s
    → StateIs p d.reader.width d.components d.count given d.lines d.reader.line.items d.reader.coder.cells
    d.reader.coder.run_indices d.reader.open_event s
state_of p d given h s is =
    subst (λ s. StateIs p d.reader.width d.components d.count given d.lines d.reader.line.items d.reader.coder.cells
    d.reader.coder.run_indices d.reader.open_event s) is h.state_is

module _ (p : CodingParameters) (d : IntervalReader) (given : List Bool) (h : IsReading p given d) (is : d.state ≡ Working) where
  open d use {components as n, reader.{width as w, line.{items as line}, coder.{cells, run_indices}}}

  abbrev lines : List (List ℕ)
  lines = d.lines

  abbrev component : ℕ
  component = length lines % n

  pub working : IsWorking p w n d.count given lines line cells run_indices d.reader.open_event
  working = state_of p d given h Working is

  pub in_range : AreCodingParameters p
  in_range = subst AreCodingParameters h.parameters d.reader.coder.in_range

  module _ (new : LineReader) (chunk unread : List Bool) (k : ℕ) (k_is : k ≡ component) (up : Above) (up_is : up ≡ above n lines) where
    abbrev Pushes : ℕ → Above → EventStep → Type 0
    Pushes k up step =
        (fed : List Bool) (earlier : List Event) → IsAfter cells.parameters cells run_indices earlier → Holds k up d.reader fed
        → EventPushed k up d.reader new fed chunk unread earlier step

    pushed : (step : EventStep) → Pushes k up step
        → EventPushed component (above n lines) d.reader new working.fed chunk unread working.earlier step
    pushed step all =
        let a : Pushes component (above n lines) step =
        subst (λ z. Pushes z (above n lines) step) k_is (subst (λ (z : Above). Pushes k z step) up_is all) in
        a working.fed working.earlier (subst (λ q. IsAfter q cells run_indices working.earlier) (sym h.parameters) working.is_after)
        (subst (λ q. OpenEventAt q w (above n lines) line cells (get_or run_indices component 0) d.reader.open_event working.fed)
        (sym h.parameters) working.open_event_at)

    -- the event isn't whole
    pub more_state : Pushes k up More → StateIs p w n d.count (given ++ chunk) lines line cells run_indices new.open_event d.state
    more_state all =
        let e = pushed More all in
        let at = subst (λ q. OpenEventAt q w (above n lines) line cells (get_or run_indices component 0) new.open_event
        (working.fed ++ e.taken)) h.parameters e.step_is.3 in
        let whole : e.taken ≡ chunk = sym (e.chunk_is ∙ ap (λ z. e.taken ++ z) e.all ∙ append-nil e.taken) in
        subst (λ s. StateIs p w n d.count (given ++ chunk) lines line cells run_indices new.open_event s) (sym is)
        (subst (λ z. IsWorking p w n d.count (given ++ z) lines line cells run_indices new.open_event) whole
        (working_more p in_range w n d.count h.width_at_least given lines line cells run_indices d.reader.open_event working e.taken
        new.open_event at))

    pub more_same : Pushes k up More → (new.line.items ≡ line) × (new.coder.cells ≡ cells) × (new.coder.run_indices ≡ run_indices)
    more_same all = let e = pushed More all in (e.step_is.0, e.step_is.1, e.step_is.2)

    -- no event can come
    pub refused_same : Pushes k up Refused → new.line.items ≡ line
    refused_same all = let e = pushed Refused all in e.step_is.0

    pub refused_state : Pushes k up Refused → BeginsNoCode p w n d.count (given ++ chunk)
    refused_state all =
        let e = pushed Refused all in
        let no_code = working_refused p in_range w n d.count h.width_at_least given lines line cells run_indices d.reader.open_event working
        e.taken (λ more. subst (λ q. NoEvent q w component (above n lines) line ((working.fed ++ e.taken) ++ more) working.earlier)
        h.parameters (e.step_is.1 more)) in
        subst (BeginsNoCode p w n d.count) (append_assoc given e.taken unread ∙ ap (λ z. given ++ z) (sym e.chunk_is))
        (no_code_more p w n d.count (given ++ e.taken) unread no_code)

    -- the event is whole
    pub moved_taken : Pushes k up Moved
        → (taken : List Bool) × (chunk ≡ taken ++ unread)
        × EventDone p w component (above n lines) line new.line.items new.coder.cells new.coder.run_indices (working.fed ++ taken)
        working.earlier × (new.open_event ≡ NotBegun)
    moved_taken all =
        let e = pushed Moved all in (
          e.taken,
          e.chunk_is,
          subst (λ q. EventDone q w component (above n lines) line new.line.items new.coder.cells new.coder.run_indices
              (working.fed ++ e.taken) working.earlier) h.parameters e.step_is.0,
          e.step_is.1,
        )

    -- samples that end no line
    pub samples_taken : new.width ≡ w → new.coder.cells.parameters ≡ cells.parameters → TakesInLine k up d.reader new chunk unread
        → Taken p given (record d { reader = new }) chunk unread
    samples_taken wide params t =
        let a = t n d.count given lines k_is up_is (subst (λ q. Works q n d.count given lines d.reader) (sym h.parameters) working) in
        let works : Works p n d.count (given ++ a.taken) lines new =
        subst (λ q. Works q n d.count (given ++ a.taken) lines new) h.parameters a.works in
        record {
          taken = a.taken;
          chunk_is = a.chunk_is;
          reading = record {
            parameters = params ∙ h.parameters;
            width_at_least = (let b = h.width_at_least in omega arith);
            components_at_least = h.components_at_least;
            components_at_most = h.components_at_most;
            lines_at_most = h.lines_at_most;
            lines_paid = (let b = h.lines_paid in let m = length-append given a.taken in omega arith);
            lines_wide = wide_same w new.width lines wide h.lines_wide;
            line_at_most = (let b = works.unfinished in omega arith);
            state_is = subst (λ s. StateIs p new.width n d.count (given ++ a.taken) lines new.line.items new.coder.cells
                new.coder.run_indices new.open_event s) (sym is) works;
          };
        }
