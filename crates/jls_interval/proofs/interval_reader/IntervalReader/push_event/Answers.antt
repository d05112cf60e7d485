use Rattle.std.proofs.Common.{◌≡◌, ℕ, ◌+◌, ◌%◌, ◌^◌, ◌<◌, ◌≤◌, List, Bool, Vec, Global, length, [], ◌∷◌, ◌++◌, refl, sym, ap, ◌∙◌, subst}
use Rattle.std.proofs.Common.{arith}
use Rattle.std.proofs.lemmas.List.{length-append}
use Rattle.jls_values.specs.Params.{CodingParameters, AreCodingParameters}
use Rattle.jls_interval.specs.Events.{Event, Above, above}
use Rattle.jls_interval.specs.After.{IsAfter}
use Rattle.jls_interval.specs.OpenEvents.{Holds, EventDone, EventPushed}
use Rattle.jls_interval.specs.Decoding.{IsWorking, StateIs, HaveWidth, IsReading, TakesSomeBits}
use Rattle.jls_interval.specs.declared.line_reader.OpenEvent.TheVariants.{NotBegun}
use Rattle.jls_interval.specs.declared.line_reader.LineReader.{LineReader}
use Rattle.jls_interval.specs.declared.line_reader.EventStep.{EventStep}
use Rattle.jls_interval.specs.declared.line_reader.EventStep.TheVariants.{More, Moved, Refused}
use Rattle.jls_interval.specs.declared.interval_reader.State.{State}
use Rattle.jls_interval.specs.declared.interval_reader.State.TheVariants.{Working, Complete, NoCode}
use Rattle.jls_interval.specs.declared.interval_reader.IntervalReader.{IntervalReader}
use Rattle.jls_interval.proofs.Decoding.{working_takes, working_on, working_line, working_over}
use Rattle.jls_interval.proofs.IntervalReading.{wide_same, wide_more, line_fits, state_same, working, in_range, more_state}
use Rattle.jls_interval.proofs.IntervalReading.{more_same, refused_same, refused_state, moved_taken}
use Rattle.jls_interval.proofs.interval_reader.IntervalReader.push_event.Goals as goal

-- what a step says of the line in work, whose place this is
abbrev Pushes : LineReader → LineReader → List Bool → List Bool → ℕ → Above → EventStep → Type 0
Pushes old new chunk unread k up step =
    (fed : List Bool) (earlier : List Event) → IsAfter old.coder.cells.parameters old.coder.cells old.coder.run_indices earlier
    → Holds k up old fed → EventPushed k up old new fed chunk unread earlier step

-- What an event says of a reader at work, in the place after its lines
module _ {p : CodingParameters} {given : List Bool} {d : IntervalReader} {new : LineReader} {chunk unread : List Bool}
    {k : ℕ} {up : Above} {step : EventStep} (h : IsReading p given d) (state : d.state ≡ Working)
    (k_is : k ≡ length d.lines % d.components) (up_is : up ≡ above d.components d.lines)
    (wide : new.width ≡ d.reader.width) (parameters : new.coder.cells.parameters ≡ d.reader.coder.cells.parameters)
    (pushed : Pushes d.reader new chunk unread k up step) where
  open d use {components as n, reader.{width as w, line.{items as line}}}
  open new use {line.{items as line'}}

  abbrev L : List (List ℕ)
  L = d.lines

  abbrev Is : List Bool → List (List ℕ) → List ℕ → State → Type 0
  Is bits ls l s = StateIs p w n d.count (given ++ bits) ls l new.coder.cells new.coder.run_indices new.open_event s

  -- a reader with these lines, this line in work and this state
  reads : (l : Vec ℕ Global) (below : new.width < 2 ^ 16) (ls : List (List ℕ)) (bits : List Bool) (s : State)
      → length ls ≤ d.count → length ls ≤ length given + length bits → HaveWidth w ls → length l.items ≤ w
      → Is bits ls l.items s
      → IsReading p (given ++ bits) (record d { reader = record new { line = l; width_below = below }; lines = ls; state = s })
  reads l below ls bits s at_most paid widths short is = record {
    parameters = parameters ∙ h.parameters;
    width_at_least = (let a = h.width_at_least in omega arith);
    components_at_least = h.components_at_least;
    components_at_most = h.components_at_most;
    lines_at_most = at_most;
    lines_paid = (let sum = length-append given bits in omega arith);
    lines_wide = wide_same w new.width ls wide widths;
    line_at_most = omega arith;
    state_is = subst (λ z. StateIs p z n d.count (given ++ bits) ls l.items new.coder.cells new.coder.run_indices
        new.open_event s) (sym wide) is;
  }

  -- the event isn't whole
  more : step ≡ More → IsReading p (given ++ chunk) (record d { reader = new })
  more e =
      let all = subst (Pushes d.reader new chunk unread k up) e pushed in let a = h.line_at_most in let paid = h.lines_paid in
      let kept = more_same p d given h state new chunk unread k k_is up up_is all in let b = ap length kept.0 in
      reads new.line new.width_below d.lines chunk d.state h.lines_at_most (omega arith) h.lines_wide (omega arith)
      (state_same p n d.count L d.state w w (given ++ chunk) (given ++ chunk) line line' d.reader.coder.cells new.coder.cells
      d.reader.coder.run_indices new.coder.run_indices new.open_event refl refl kept.0 kept.1 kept.2
      (more_state p d given h state new chunk unread k k_is up up_is all))

  -- no event can come
  refused : step ≡ Refused → IsReading p (given ++ chunk) (record d { reader = new; state = NoCode })
  refused e =
      let all = subst (Pushes d.reader new chunk unread k up) e pushed in let a = h.line_at_most in let paid = h.lines_paid in
      let b = ap length (refused_same p d given h state new chunk unread k k_is up up_is all) in
      reads new.line new.width_below d.lines chunk NoCode h.lines_at_most (omega arith) h.lines_wide (omega arith)
      (refused_state p d given h state new chunk unread k k_is up up_is all)

  -- the event is whole
  module _ (moved : step ≡ Moved) where
    abbrev work : IsWorking p w n d.count given L line d.reader.coder.cells d.reader.coder.run_indices d.reader.open_event
    work = working p d given h state

    abbrev ok : AreCodingParameters p
    ok = in_range p d given h state

    m : (taken : List Bool) × (chunk ≡ taken ++ unread)
        × EventDone p w (length L % n) (above n L) line line' new.coder.cells new.coder.run_indices (work.fed ++ taken) work.earlier
        × (new.open_event ≡ NotBegun)
    m = moved_taken p d given h state new chunk unread k k_is up up_is (subst (Pushes d.reader new chunk unread k up) moved pushed)

    some : 0 < length m.0
    some = working_takes p ok w n d.count h.width_at_least given L line d.reader.coder.cells d.reader.coder.run_indices d.reader.open_event
        work m.0 line' new.coder.cells new.coder.run_indices m.2

    takes : {next : IntervalReader} → IsReading p (given ++ m.0) next → TakesSomeBits p given next chunk unread
    takes r = record { taken = m.0; chunk_is = m.1; some = some; reading = r }

    -- the line goes on
    unfinished : (length line' ≡ w → ⊥) → TakesSomeBits p given (record d { reader = new }) chunk unread
    unfinished ne =
        let most = line_fits p w (length L % n) (above n L) line line' new.coder.cells new.coder.run_indices (work.fed ++ m.0) work.earlier
        m.2 work.unfinished in let short : length line' < w = omega arith in let paid = h.lines_paid in
        let on = working_on p ok w n d.count h.width_at_least given L line d.reader.coder.cells d.reader.coder.run_indices
        d.reader.open_event work m.0 line' new.coder.cells new.coder.run_indices m.2 short in
        takes (reads new.line new.width_below d.lines m.0 d.state h.lines_at_most (omega arith) h.lines_wide most
        (subst (Is m.0 L line') (sym state)
        (subst (λ z. IsWorking p w n d.count (given ++ m.0) L line' new.coder.cells new.coder.run_indices z) (sym m.3) on)))

    -- the line is whole, and another one begins
    module _ {l none v : Vec ℕ Global} (whole : length line' ≡ w) (ls : List (List ℕ)) (l_is : l ≡ none)
        (empty : none.items ≡ []) (v_is : v ≡ new.line) (ls_is : ls ≡ d.lines ++ v.items ∷ []) where
      grown : ls ≡ L ++ line' ∷ []
      grown = ls_is ∙ ap (λ (z : Vec ℕ Global). L ++ z.items ∷ []) v_is

      begun : l.items ≡ []
      begun = ap (λ (z : Vec ℕ Global). z.items) l_is ∙ empty

      number : length ls ≡ length (L ++ line' ∷ [])
      number = ap length grown

      ended : {below : new.width < 2 ^ 16} (s : State) → Is m.0 (L ++ line' ∷ []) [] s
          → TakesSomeBits p given (record d { reader = record new { line = l; width_below = below }; lines = ls; state = s }) chunk unread
      ended {below} s is =
          let few = work.few in let paid = h.lines_paid in let one = some in let a = number in let b = length-append L (line' ∷ []) in
          let zero = ap length begun in
          takes (reads l below ls m.0 s (omega arith) (omega arith)
          (subst (HaveWidth w) (sym grown) (wide_more w L line' h.lines_wide whole)) (omega arith)
          (subst (λ z. Is m.0 z l.items s) (sym grown) (subst (λ z. Is m.0 (L ++ line' ∷ []) z s) (sym begun) is)))

      complete : {below : new.width < 2 ^ 16} → d.count ≤ length ls
          → TakesSomeBits p given
          (record d { reader = record new { line = l; width_below = below }; lines = ls; state = Complete 0 }) chunk unread
      complete all =
          let a = number in
          ended (Complete 0) (working_over p ok w n d.count h.width_at_least given L line d.reader.coder.cells d.reader.coder.run_indices
          d.reader.open_event work m.0 line' new.coder.cells new.coder.run_indices m.2 whole (omega arith))

      goes_on : {below : new.width < 2 ^ 16} → (length ls ≡ d.count → ⊥)
          → TakesSomeBits p given (record d { reader = record new { line = l; width_below = below }; lines = ls }) chunk unread
      goes_on ne =
          let few = work.few in let a = number in let b = length-append L (line' ∷ []) in
          let more_lines : length (L ++ line' ∷ []) < d.count = omega arith in
          let on = working_line p ok w n d.count h.width_at_least given L line d.reader.coder.cells d.reader.coder.run_indices
          d.reader.open_event work m.0 line' new.coder.cells new.coder.run_indices m.2 whole more_lines in
          ended d.state (subst (Is m.0 (L ++ line' ∷ []) []) (sym state)
          (subst (λ z. IsWorking p w n d.count (given ++ m.0) (L ++ line' ∷ []) [] new.coder.cells new.coder.run_indices z) (sym m.3) on))

pub returns-in-More-clause-bits : goal.returns-in-More-clause-bits
returns-in-More-clause-bits c = λ p given h.
    let place = c.next_place-place.ensures in let e = c.push_to_event.ensures in
    more h c.requires.state place.component place.above e.width e.parameters c.in_ok-push_to_event.ensures.step
    c.in-More.is

pub returns-in-Refused-clause-bits : goal.returns-in-Refused-clause-bits
returns-in-Refused-clause-bits c = λ p given h.
    let place = c.next_place-place.ensures in let e = c.push_to_event.ensures in
    refused h c.requires.state place.component place.above e.width e.parameters c.in_ok-push_to_event.ensures.step
    c.in-Refused.is

pub returns-else-len-self-clause-bits : goal.returns-else-len-self-clause-bits
returns-else-len-self-clause-bits c = λ p given h.
    let place = c.next_place-place.ensures in let e = c.push_to_event.ensures in
    unfinished h c.requires.state place.component place.above e.width e.parameters c.in_ok-push_to_event.ensures.step
    c.in-Moved.is (λ o. (let f = c.if-len-self.false in let l = c.len.ensures in omega arith))

pub returns-then-len-self-2-clause-bits : goal.returns-then-len-self-2-clause-bits
returns-then-len-self-2-clause-bits c = λ p given h.
    let place = c.next_place-place.ensures in let e = c.push_to_event.ensures in
    complete h c.requires.state place.component place.above e.width e.parameters c.in_ok-push_to_event.ensures.step
    c.in-Moved.is (let f = c.if-len-self.true in let l = c.len.ensures in omega arith) c.push.new.self c.replace-line.ensures.after
    c.in_ok-next-in-Moved.ensures.items c.replace-line.ensures.value c.in_ok-push-in-Moved.ensures
    (let f = c.if-len-self-2.true in let l = c.len-then-len-self.ensures in omega arith)

pub returns-else-len-self-2-clause-bits : goal.returns-else-len-self-2-clause-bits
returns-else-len-self-2-clause-bits c = λ p given h.
    let place = c.next_place-place.ensures in let e = c.push_to_event.ensures in
    goes_on h c.requires.state place.component place.above e.width e.parameters c.in_ok-push_to_event.ensures.step
    c.in-Moved.is (let f = c.if-len-self.true in let l = c.len.ensures in omega arith) c.push.new.self c.replace-line.ensures.after
    c.in_ok-next-in-Moved.ensures.items c.replace-line.ensures.value c.in_ok-push-in-Moved.ensures
    (λ o. (let f = c.if-len-self-2.false in let l = c.len-then-len-self.ensures in omega arith))
