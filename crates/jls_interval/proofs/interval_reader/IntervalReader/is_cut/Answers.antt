use Rattle.std.proofs.Common.{◌≡◌, ℕ, ◌≤◌, true, false, List, sym, subst, ◌∙◌}
use Rattle.std.specs.List.{AllByRecursion}
use Rattle.jls_values.specs.Params.{CodingParameters}
use Rattle.jls_interval.specs.Events.{Above}
use Rattle.jls_interval.specs.Place.{above_of}
use Rattle.jls_interval.proofs.EventsApart.{small_back}
use Rattle.jls_interval.proofs.IntervalReading.{working}
use Rattle.jls_interval.proofs.CutStates.{reading_idle, reading_cut, reading_stuck}
use Rattle.jls_interval.proofs.interval_reader.IntervalReader.is_cut.Goals as goal

pub returns-then-not-is_working-clause-no : goal.returns-then-not-is_working-clause-no
returns-then-not-is_working-clause-no c = λ _ p given h.
    reading_idle p c.args.self.now given h (λ e. (let a : true ≡ false = sym (c.is_working.ensures.1 e) ∙ c.if-not-is_working.true in cc))

pub event_goes_on-requires-clause-above : goal.event_goes_on-requires-clause-above
event_goes_on-requires-clause-above c =
    let d = c.args.self.now in let L : List (List ℕ) = d.lines in let p = c.requires.0 in let h = c.requires.2 in
    let work = working p d c.requires.1 h (c.is_working.ensures.0 c.if-not-is_working.false) in
    subst (λ (q : CodingParameters). AllByRecursion (λ s. s ≤ q.maxval) c.next_place-place.result.line_above.now) (sym h.parameters)
    (subst (λ (z : Above). AllByRecursion (λ s. s ≤ p.maxval) z.line_above)
    (sym c.next_place-place.ensures.above) (small_back p L d.components work.samples.0))

pub returns-clause-yes : goal.returns-clause-yes
returns-clause-yes c = λ e p given h.
    reading_cut p c.args.self.now given h (c.is_working.ensures.0 c.if-not-is_working.false) c.next_place-place.result.component
    c.next_place-place.ensures.component (above_of c.next_place-place.result) c.next_place-place.ensures.above (c.event_goes_on.ensures.yes e)

pub returns-clause-no : goal.returns-clause-no
returns-clause-no c = λ e p given h.
    reading_stuck p c.args.self.now given h (c.is_working.ensures.0 c.if-not-is_working.false) c.next_place-place.result.component
    c.next_place-place.ensures.component (above_of c.next_place-place.result) c.next_place-place.ensures.above (c.event_goes_on.ensures.no e)
