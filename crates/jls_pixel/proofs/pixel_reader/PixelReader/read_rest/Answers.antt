use Rattle.std.proofs.Common.{true, false, subst}
use Rattle.jls_pixel.specs.PixelReading.{PushesEvent, FindsNone}
use Rattle.jls_pixel.proofs.PixelReading.{shape_then, no_rows_back}
use Rattle.jls_pixel.proofs.pixel_reader.PixelReader.read_rest.Goals as goal

pub push_event-requires-clause-reading : goal.push_event-requires-clause-reading
push_event-requires-clause-reading c = let h = c.requires in (h.0, h.1, c.events.invariant.reading h.0 h.1 h.2)

pub returns-then-not-branch-clause-none : goal.returns-then-not-branch-clause-none
returns-then-not-branch-clause-none c = λ _ p given r.
    let now = c.events.self in let new = c.push_event.new.self in
    let event : PushesEvent now new false = subst (PushesEvent now new) c.if-not-branch.true c.in_ok-push_event.ensures.event in
    let none : FindsNone p given now = event p given (c.events.invariant.reading p given r) in
    no_rows_back p given c.args.self.now now c.events.invariant.shape none.none

pub events-preserved : goal.events-preserved
events-preserved c =
    let now = c.events.self in let new = c.push_event.new.self in
    let event : PushesEvent now new true = subst (PushesEvent now new) c.if-not-branch.false c.in_ok-push_event.ensures.event in
    record {
      shape = shape_then c.args.self.now now new c.events.invariant.shape c.push_event.ensures.shape;
      reading = λ p given r. event p given (c.events.invariant.reading p given r);
    }
