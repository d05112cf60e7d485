use Rattle.std.proofs.Common.{true, subst}
use Rattle.jls_pixel.specs.PixelReading.{TakesEvent}
use Rattle.jls_pixel.proofs.pixel_reader.PixelReader.push_event.Goals as goal

pub end_row-requires-clause-taken : goal.end_row-requires-clause-taken
end_row-requires-clause-taken c =
    let h = c.requires.reading in let old = c.args.self.now in let new = c.take_event.new.self in
    let event : TakesEvent old new true = subst (TakesEvent old new) c.if-not-branch.false c.in_ok-take_event.ensures.event in
    (h.0, h.1, event h.0 h.1 h.2)

pub returns-clause-event : goal.returns-clause-event
returns-clause-event c = λ p given r.
    let old = c.args.self.now in let new = c.take_event.new.self in
    let event : TakesEvent old new true = subst (TakesEvent old new) c.if-not-branch.false c.in_ok-take_event.ensures.event in
    c.in_ok-end_row.ensures.reading p given (event p given r)
