use Rattle.std.proofs.Common.{◌≡◌, true, false, sym, ◌∙◌, subst}
use Rattle.jls_pixel.specs.PixelReading.{PushesEvent, FindsNone}
use Rattle.jls_pixel.proofs.PixelReading.{shape_then}
use Rattle.jls_pixel.proofs.CutRows.{reading_broken, broken_on}
use Rattle.jls_pixel.proofs.pixel_reader.PixelReader.read_to_end.Goals as goal

pub is_cut-requires-clause-reading : goal.is_cut-requires-clause-reading
is_cut-requires-clause-reading c = let h = c.requires in (h.0, h.1, c.events.invariant.reading h.0 h.1 h.2)

pub push_event-requires-clause-reading : goal.push_event-requires-clause-reading
push_event-requires-clause-reading c = let h = c.requires in (h.0, h.1, c.events.invariant.reading h.0 h.1 h.2)

pub returns-then-branch-clause-end : goal.returns-then-branch-clause-end
returns-then-branch-clause-end c = λ p given r.
    c.in_ok-is_cut.ensures.yes c.if-branch.true p given (c.events.invariant.reading p given r)

pub returns-then-not-branch-clause-shape : goal.returns-then-not-branch-clause-shape
returns-then-not-branch-clause-shape c =
    shape_then c.args.self.now c.events.self c.push_event.new.self c.events.invariant.shape c.push_event.ensures.shape

pub returns-then-not-branch-clause-end : goal.returns-then-not-branch-clause-end
returns-then-not-branch-clause-end c = λ p given r.
    let now = c.events.self in let new = c.push_event.new.self in let h = c.events.invariant.reading p given r in
    let event : PushesEvent now new false = subst (PushesEvent now new) c.if-not-branch.true c.in_ok-push_event.ensures.event in
    let none : FindsNone p given now = event p given h in
    let state = c.is_working.ensures.0 c.events-test.true in
    broken_on p given now new c.push_event.ensures.shape none.none
    (reading_broken p now given h state none.refuses (c.in_ok-is_cut.ensures.no c.if-branch.false p given h))

pub events-preserved : goal.events-preserved
events-preserved c =
    let now = c.events.self in let new = c.push_event.new.self in
    let event : PushesEvent now new true = subst (PushesEvent now new) c.if-not-branch.false c.in_ok-push_event.ensures.event in
    record {
      shape = shape_then c.args.self.now now new c.events.invariant.shape c.push_event.ensures.shape;
      reading = λ p given r. event p given (c.events.invariant.reading p given r);
    }

pub returns-clause-end : goal.returns-clause-end
returns-clause-end c = λ p given r. (
  c.events.invariant.reading p given r,
  λ e. (let a : true ≡ false = sym (c.is_working.ensures.1 e) ∙ c.events-test.false in cc),
)
