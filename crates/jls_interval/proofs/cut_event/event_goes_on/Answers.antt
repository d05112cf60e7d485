use Rattle.std.proofs.Common.{◌≡◌, ℕ, ◌-◌, ◌<◌, ◌≤◌, Bool, List, [], ◌++◌, length, get_or, arith, sym, subst}
use Rattle.std.specs.List.{AllByRecursion}
use Rattle.jls_values.specs.Params.{limit, qbpp}
use Rattle.jls_context.specs.declared.mode.Neighbours.{Neighbours}
use Rattle.jls_context.specs.Mode.{context}
use Rattle.jls_context.specs.Variables.{cell_at, run_cell_at}
use Rattle.jls_bits.specs.CodeState.{bits_fed}
use Rattle.jls_bits.specs.declared.code_state.CodeState.{CodeState}
use Rattle.jls_interval.specs.Events.{Event, Above}
use Rattle.jls_interval.specs.Cells.{is_same}
use Rattle.jls_interval.specs.Code.{event_bits}
use Rattle.jls_interval.specs.Growth.{Fits}
use Rattle.jls_interval.specs.Reading.{NoSample, NoRun, NoInterruption}
use Rattle.jls_interval.specs.Runs.{run_order}
use Rattle.jls_interval.specs.RunState.{IsRunState, RunAt}
use Rattle.jls_interval.specs.Place.{above_of}
use Rattle.jls_interval.specs.After.{IsAfter}
use Rattle.jls_interval.specs.OpenEvents.{now_at, following, OpenEventAt, Holds, NoEvent}
use Rattle.jls_interval.specs.CutEventsOpen.{BeginsSample, BeginsInterruption, BeginsRun, BeginsEvent}
use Rattle.jls_interval.specs.declared.place.Place.{Place}
use Rattle.jls_interval.specs.declared.run_reader.RunState.{RunState}
use Rattle.jls_interval.specs.declared.line_reader.LineReader.{LineReader}
use Rattle.jls_interval.specs.declared.line_reader.OpenEvent.{OpenEvent}
use Rattle.jls_interval.specs.declared.line_reader.OpenEvent.TheVariants.{NotBegun, Sample, InRun, Interruption}
use Rattle.jls_interval.specs.declared.line_reader.Interruption.{Interruption as InterruptionNow}
use Rattle.jls_interval.proofs.SamplesRead.{wide}
use Rattle.jls_interval.proofs.RunEvents.{run_none}
use Rattle.jls_interval.proofs.OpenEventBits.{no_sample_no_event}
use Rattle.jls_interval.proofs.CutOpenEvents.{not_begun_goes_on, sample_begins, run_begins, interruption_begins, interruption_missing}
use Rattle.jls_interval.proofs.cut_event.event_goes_on.Goals as goal

-- What the event in hand can go on to, in a line of a place
module _ (d : LineReader) (place : Place) (above : AllByRecursion (λ s. s ≤ d.coder.cells.parameters.maxval) place.line_above.now)
    (short : length d.line.items < d.width) (fed : List Bool) (earlier : List Event)
    (t : IsAfter d.coder.cells.parameters d.coder.cells d.coder.run_indices earlier)
    (h : Holds place.component (above_of place) d fed) where
  open d use {width as w, line.{items as line}, coder.{cells, run_indices as ri, cells.{parameters as p}}}
  open place use {component as k}

  abbrev up : Above
  up = above_of place

  abbrev near : Neighbours
  near = now_at w up line

  at : (event : OpenEvent) → d.open_event ≡ event → OpenEventAt p w up line cells (get_or ri k 0) event fed
  at event is = subst (λ z. OpenEventAt p w up line cells (get_or ri k 0) z fed) is h

  not_begun_yes : d.open_event ≡ NotBegun → ((e : Event) → Fits p w k up line near e → event_bits p earlier e ≡ [] → ⊥)
      → BeginsEvent p w k up line fed earlier
  not_begun_yes is some =
      subst (λ z. BeginsEvent p w k up line z earlier) (sym (at NotBegun is))
      (not_begun_goes_on p d.coder.in_range w k up above line short cells ri earlier t some)

  module _ (code : CodeState) (is : d.open_event ≡ Sample code) where
    sample_yes : BeginsSample p (cell_at cells (context p near)) near (bits_fed (limit p) (qbpp p) code)
        → BeginsEvent p w k up line fed earlier
    sample_yes b =
        let s = at (Sample code) is in
        subst (λ z. BeginsEvent p w k up line z earlier) (sym s.2)
        (sample_begins p d.coder.in_range w k up above line short cells ri earlier t s.0 _ b)

    sample_no : (more : List Bool) → NoSample p (cell_at cells (context p near)) near (bits_fed (limit p) (qbpp p) code ++ more)
        → NoEvent p w k up line (fed ++ more) earlier
    sample_no more none =
        let s = at (Sample code) is in
        no_sample_no_event p w k up line cells ri earlier t (fed ++ more) s.0
        (subst (λ z. NoSample p (cell_at cells (context p near)) near (z ++ more)) (sym s.2) none)

  module _ (state : RunState) (is : d.open_event ≡ InRun state) where
    run_yes : ((r0 w0 : ℕ) (fed : List Bool) → IsRunState w0 state → RunAt r0 w0 fed state → BeginsRun r0 w0 fed)
        → BeginsEvent p w k up line fed earlier
    run_yes all =
        let s = at (InRun state) is in
        run_begins p d.coder.in_range w k up above line short cells ri earlier t s.0 fed (all _ _ fed s.1 s.2)

    run_no : ((r0 w0 : ℕ) (fed : List Bool) → IsRunState w0 state → RunAt r0 w0 fed state → (more : List Bool) → NoRun r0 w0 (fed ++ more))
        → (more : List Bool) → NoEvent p w k up line (fed ++ more) earlier
    run_no all more =
        let s = at (InRun state) is in
        run_none p (wide p d.coder.in_range) w k up above line earlier (get_or ri k 0) (t.run_indices_are k) (w - length line)
        (omega arith) (fed ++ more) s.0 (all _ _ fed s.1 s.2 more)

  module _ (i : InterruptionNow) (is : d.open_event ≡ Interruption i) where
    abbrev there : Neighbours
    there = following w up line i.count

    abbrev begun : List Bool
    begun = bits_fed (limit p - run_order i.run_index - 1) (qbpp p) i.code

    interruption_yes : BeginsInterruption p (run_cell_at cells (is_same there)) there (run_order i.run_index) begun
        → BeginsEvent p w k up line fed earlier
    interruption_yes b =
        let s = at (Interruption i) is in
        interruption_begins p d.coder.in_range w k up above line short cells ri earlier t s.0 i.count i.run_index fed begun s.3 b

    interruption_no : ((more : List Bool)
        → NoInterruption p (run_cell_at cells (is_same there)) there (run_order i.run_index) (begun ++ more))
        → (more : List Bool) → NoEvent p w k up line (fed ++ more) earlier
    interruption_no none =
        let s = at (Interruption i) is in
        interruption_missing p d.coder.in_range w k up above line short cells ri earlier t s.0 i.count i.run_index fed begun s.3 none

pub returns-in-NotBegun-clause-yes : goal.returns-in-NotBegun-clause-yes
returns-in-NotBegun-clause-yes c = λ _ fed earlier t some h.
    not_begun_yes c.args.reader.now c.args.place.now c.requires.above c.requires.columns fed earlier t h c.in-NotBegun.is some

pub returns-in-Sample-clause-yes : goal.returns-in-Sample-clause-yes
returns-in-Sample-clause-yes c = λ e fed earlier t some h.
    sample_yes c.args.reader.now c.args.place.now c.requires.above c.requires.columns fed earlier t h c.in-Sample.code c.in-Sample.is
    (c.regular_goes_on.ensures.yes e)

pub returns-in-Sample-clause-no : goal.returns-in-Sample-clause-no
returns-in-Sample-clause-no c = λ e fed earlier t h more.
    sample_no c.args.reader.now c.args.place.now c.requires.above c.requires.columns fed earlier t h c.in-Sample.code c.in-Sample.is more
    (c.regular_goes_on.ensures.no e more)

pub returns-in-InRun-clause-yes : goal.returns-in-InRun-clause-yes
returns-in-InRun-clause-yes c = λ e fed earlier t some h.
    run_yes c.args.reader.now c.args.place.now c.requires.above c.requires.columns fed earlier t h c.in-InRun.state c.in-InRun.is
    (c.run_goes_on.ensures.yes e)

pub returns-in-InRun-clause-no : goal.returns-in-InRun-clause-no
returns-in-InRun-clause-no c = λ e fed earlier t h.
    run_no c.args.reader.now c.args.place.now c.requires.above c.requires.columns fed earlier t h c.in-InRun.state c.in-InRun.is
    (c.run_goes_on.ensures.no e)

pub returns-in-Interruption-clause-yes : goal.returns-in-Interruption-clause-yes
returns-in-Interruption-clause-yes c = λ e fed earlier t some h.
    interruption_yes c.args.reader.now c.args.place.now c.requires.above c.requires.columns fed earlier t h
    c.in-Interruption.interruption c.in-Interruption.is (c.interrupted_goes_on.ensures.yes e)

pub returns-in-Interruption-clause-no : goal.returns-in-Interruption-clause-no
returns-in-Interruption-clause-no c = λ e fed earlier t h.
    interruption_no c.args.reader.now c.args.place.now c.requires.above c.requires.columns fed earlier t h
    c.in-Interruption.interruption c.in-Interruption.is (c.interrupted_goes_on.ensures.no e)
