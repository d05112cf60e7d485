use Rattle.std.proofs.Common.{true, false, subst}
use Rattle.jls_pixel.specs.PixelReading.{PushesEvent, FindsNone}
use Rattle.jls_pixel.proofs.PixelReading.{shape_then, stopped}
use Rattle.jls_pixel.proofs.pixel_reader.PixelReader.read_waiting.Goals as goal

pub push_event-requires-clause-reading : goal.push_event-requires-clause-reading
push_event-requires-clause-reading c = let h = c.requires in (h.0, h.1, c.events.invariant.reading h.0 h.1 h.2)

pub returns-then-not-branch-clause-reading : goal.returns-then-not-branch-clause-reading
returns-then-not-branch-clause-reading c = λ p given r.
    let now = c.events.self in let new = c.push_event.new.self in let here = c.events.invariant.reading p given r in
    let event : PushesEvent now new false = subst (PushesEvent now new) c.if-not-branch.true c.in_ok-push_event.ensures.event in
    let none : FindsNone p given now = event p given here in
    let s = stopped p given now new here c.push_event.ensures.shape c.push_event.ensures.parameters
    (none.never (c.has.ensures c.if-not-has.false)) in
    record {
      shape = record {
        parameters = s.0.parameters;
        width_at_least = s.0.width_at_least;
        width_below = s.0.width_below;
        components_at_most = s.0.components_at_most;
      };
      state_is = s.1;
    }

pub events-preserved : goal.events-preserved
events-preserved c =
    let now = c.events.self in let new = c.push_event.new.self in
    let event : PushesEvent now new true = subst (PushesEvent now new) c.if-not-branch.false c.in_ok-push_event.ensures.event in
    record {
      shape = shape_then c.args.self.now now new c.events.invariant.shape c.push_event.ensures.shape;
      reading = λ p given r. event p given (c.events.invariant.reading p given r);
    }
