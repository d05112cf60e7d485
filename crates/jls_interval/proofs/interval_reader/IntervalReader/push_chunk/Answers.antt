use Rattle.std.proofs.Common.{◌≡◌, ℕ, ◌%◌, ◌≤◌, true, false, List, Bool, ◌++◌, length, refl, ◌∙◌, sym, subst, arith}
use Rattle.jls_values.specs.Params.{CodingParameters}
use Rattle.jls_interval.specs.Events.{Above, above}
use Rattle.jls_interval.specs.Decoding.{IsReading, TakesFirst, TakesEvent}
use Rattle.jls_interval.specs.LineSamples.{TakesInLine}
use Rattle.jls_interval.specs.declared.interval_reader.IntervalReader.{IntervalReader}
use Rattle.jls_interval.specs.declared.interval_reader.State.TheVariants.{Working}
use Rattle.jls_interval.specs.declared.line_reader.LineReader.{LineReader}
use Rattle.jls_interval.proofs.IntervalReading.{working, samples_taken, shape_none, shape_then, taking_none, taking_then}
use Rattle.jls_interval.proofs.IntervalReading.{taking_more, taking_all, taking_shorter, taking_fewer}
use Rattle.jls_interval.proofs.interval_reader.IntervalReader.push_chunk.Goals as goal

-- samples that were taken into the line in work, of which this is the place, after the bits taken before
module _ {old d : IntervalReader} (new : LineReader) {all chunk unread : List Bool} {k : ℕ} {up : Above}
    (before : TakesFirst old all d chunk) (state : d.state ≡ Working)
    (k_is : k ≡ length d.lines % d.components) (up_is : up ≡ above d.components d.lines)
    (wide : new.width ≡ d.reader.width) (params : new.coder.cells.parameters ≡ d.reader.coder.cells.parameters)
    (t : TakesInLine k up d.reader new chunk unread) where
  samples : TakesFirst d chunk (record d { reader = new }) unread
  samples = λ p given h.
      samples_taken p d given h state new chunk unread k k_is up up_is wide params t

  first : TakesFirst old all (record d { reader = new }) unread
  first = taking_then old d (record d { reader = new }) all chunk before unread samples

  fewer : (p : CodingParameters) (given : List Bool) → IsReading p given old → length unread ≤ length chunk
  fewer p given h = let a = before p given h in
      taking_fewer d (record d { reader = new }) chunk unread samples p (given ++ a.taken) a.reading

pub events-init : goal.events-init
events-init c = record { shape = shape_none c.args.self.now; taking = taking_none c.args.self.now c.args.chunk.now }

pub next_place-place-requires-clause-at_least : goal.next_place-place-requires-clause-at_least
next_place-place-requires-clause-at_least c = let h = c.requires in (c.events.invariant.taking h.0 h.1 h.2).reading.components_at_least

pub next_place-place-requires-clause-at_most : goal.next_place-place-requires-clause-at_most
next_place-place-requires-clause-at_most c = let h = c.requires in (c.events.invariant.taking h.0 h.1 h.2).reading.components_at_most

pub take_samples-requires : goal.take_samples-requires
take_samples-requires c =
    let h = c.requires in let a = c.events.invariant.taking h.0 h.1 h.2 in
    record { columns = (working h.0 c.events.self (h.1 ++ a.taken) a.reading (c.is_working.ensures.0 c.events-test.true)).unfinished }

pub push_event-requires-clause-reading : goal.push_event-requires-clause-reading
push_event-requires-clause-reading c =
    let h = c.requires in let place = c.next_place-place.ensures in let s = c.take_samples.ensures in
    let so_far = first c.take_samples.new.reader c.events.invariant.taking (c.is_working.ensures.0 c.events-test.true)
    place.component place.above s.width s.parameters c.in_ok-take_samples.ensures.taken in
    (h.0, _, (so_far h.0 h.1 h.2).reading)

pub returns-then-len-fewest-clause-shape : goal.returns-then-len-fewest-clause-shape
returns-then-len-fewest-clause-shape c =
    let d = c.events.self in let s = c.take_samples in
    shape_then c.args.self.now d (record d { reader = s.new.reader }) c.events.invariant.shape
    (record { width = s.ensures.width; components = refl; count = refl })

pub returns-then-len-fewest-clause-bits : goal.returns-then-len-fewest-clause-bits
returns-then-len-fewest-clause-bits c =
    let place = c.next_place-place.ensures in let s = c.take_samples.ensures in
    first c.take_samples.new.reader c.events.invariant.taking (c.is_working.ensures.0 c.events-test.true)
    place.component place.above s.width s.parameters c.in_ok-take_samples.ensures.taken

pub returns-then-not-goes_on-clause-bits : goal.returns-then-not-goes_on-clause-bits
returns-then-not-goes_on-clause-bits c =
    let place = c.next_place-place.ensures in let s = c.take_samples.ensures in
    let so_far = first c.take_samples.new.reader c.events.invariant.taking (c.is_working.ensures.0 c.events-test.true)
    place.component place.above s.width s.parameters c.in_ok-take_samples.ensures.taken in
    taking_all c.args.self.now _ c.push_event.new.self c.args.chunk.now _ so_far c.new.result c.new.ensures
    (subst (TakesEvent _ c.push_event.new.self _ c.push_event.new.chunk) c.if-not-goes_on.true c.in_ok-goes_on.ensures.bits)

-- each turn of the loop takes a bit, or fewer lines are to come
pub events-smaller : goal.events-smaller
events-smaller c =
    let h = c.requires in let place = c.next_place-place.ensures in let s = c.take_samples.ensures in
    let so_far = first c.take_samples.new.reader c.events.invariant.taking (c.is_working.ensures.0 c.events-test.true)
    place.component place.above s.width s.parameters c.in_ok-take_samples.ensures.taken in
    let no_more = fewer c.take_samples.new.reader c.events.invariant.taking (c.is_working.ensures.0 c.events-test.true)
    place.component place.above s.width s.parameters c.in_ok-take_samples.ensures.taken h.0 h.1 h.2 in
    let shorter = taking_shorter c.args.self.now _ c.push_event.new.self c.args.chunk.now _ so_far c.push_event.new.chunk
    (subst (TakesEvent _ c.push_event.new.self _ c.push_event.new.chunk) c.if-not-goes_on.false c.in_ok-goes_on.ensures.bits) h.0 h.1
    h.2 in
    omega arith

-- one event more is taken from the chunk
pub events-preserved : goal.events-preserved
events-preserved c =
    let place = c.next_place-place.ensures in let s = c.take_samples.ensures in
    let so_far = first c.take_samples.new.reader c.events.invariant.taking (c.is_working.ensures.0 c.events-test.true)
    place.component place.above s.width s.parameters c.in_ok-take_samples.ensures.taken in
    let now : IntervalReader = record c.events.self { reader = c.take_samples.new.reader } in
    record {
      shape = shape_then c.args.self.now now c.push_event.new.self
          (shape_then c.args.self.now c.events.self now c.events.invariant.shape
          (record { width = s.width; components = refl; count = refl })) c.push_event.ensures.shape;
      taking = taking_more c.args.self.now now c.push_event.new.self c.args.chunk.now c.take_samples.new.chunk so_far c.push_event.new.chunk
          (subst (TakesEvent now c.push_event.new.self c.take_samples.new.chunk c.push_event.new.chunk) c.if-not-goes_on.false
          c.in_ok-goes_on.ensures.bits);
    }

pub returns-clause-bits : goal.returns-clause-bits
returns-clause-bits c =
    taking_all c.args.self.now c.events.self c.count_bits.new.self c.args.chunk.now c.events.chunk c.events.invariant.taking c.new-2.result
    c.new-2.ensures (c.count_bits.ensures.bits (λ e. (let a : true ≡ false = sym (c.is_working.ensures.1 e) ∙ c.events-test.false in cc)))
