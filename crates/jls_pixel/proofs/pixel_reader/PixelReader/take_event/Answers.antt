use Rattle.std.proofs.Common.{ℕ, ◌<◌, ◌≤◌, Bool, List, length, refl, ◌∙◌, subst}
use Rattle.std.specs.Prelude.{Option, IfSome, IfNone}
use Rattle.std.specs.List.{AllByRecursion}
use Rattle.jls_values.specs.Params.{CodingParameters, AreCodingParameters}
use Rattle.jls_context.specs.Variables.{Variables}
use Rattle.jls_pixel.specs.Pixels.{RowsAbove, IsPixel, rows_above}
use Rattle.jls_pixel.specs.Place.{above_of}
use Rattle.jls_pixel.specs.EventRead.{ReadsEvent, RefusesEvent}
use Rattle.jls_pixel.specs.RowsInWork.{GrowsWithin}
use Rattle.jls_pixel.specs.PixelReading.{IsReading}
use Rattle.jls_pixel.proofs.RowSteps.{begun_above}
use Rattle.jls_pixel.proofs.PixelReading.{working, same_place, event_taken, none_stands, none_comes}
use Rattle.jls_pixel.proofs.pixel_reader.PixelReader.take_event.Goals as goal
use Rattle.jls_pixel.proofs.pixel_reader.PixelReader.take_event.Goals.{After-next_place-place}

-- what holds at the place holds of the reader
of_reader : (c : After-next_place-place) (p : CodingParameters) (given : List Bool) → IsReading p given c.args.self.now
    → (P : CodingParameters → ℕ → ℕ → RowsAbove → Type 0)
    → (let place = c.next_place-place.result in
    P c.args.self.now.coder.cells.parameters place.width place.components (above_of place))
    → (let d = c.args.self.now in P p d.width d.components (rows_above d.rows))
of_reader c p given r P x =
    let e = c.next_place-place.ensures in
    same_place c.args.self.now c.next_place-place.result e.width e.components e.above p r.shape.parameters P x

pub read_event-requires-clause-above : goal.read_event-requires-clause-above
read_event-requires-clause-above c =
    let h = c.requires.reading in let p : CodingParameters = h.0 in let given : List Bool = h.1 in let r = h.2 in
    let d = c.args.self.now in let place = c.next_place-place.result in let t = working p d given r c.requires.state in
    of_reader (goal.at.read_event-requires-clause-above c).After-next_place-place p given r
    (λ q w k up. AllByRecursion (IsPixel q k) up.row_above
    → AllByRecursion (IsPixel d.coder.cells.parameters place.components) place.row_above.now)
    (λ pixels. pixels)
    (begun_above p d.width d.components d.count r.shape.width_at_least given d.rows d.row.items d.coder.cells d.run_index d.pending
    t.begun.begun t.unfinished)

pub returns-in-None-clause-event : goal.returns-in-None-clause-event
returns-in-None-clause-event c = λ p given r.
    let d = c.args.self.now in let w = d.width in let k = d.components in let n = d.count in
    let rows : List (List (List ℕ)) = d.rows in let row : List (List ℕ) = d.row.items in let left : List Bool = d.pending in
    let cells : Variables = d.coder.cells in let j = d.run_index in let place = c.next_place-place.result in
    let t = working p d given r c.requires.state in
    let ok : AreCodingParameters p = subst AreCodingParameters r.shape.parameters d.coder.in_range in
    let none : RefusesEvent p w k (rows_above rows) row cells j left =
    of_reader (goal.at.returns-in-None-clause-event c).After-next_place-place p given r
    (λ q w k up. RefusesEvent q w k up row cells j left)
    (subst (λ (o : Option ℕ). IfNone o (RefusesEvent cells.parameters place.width place.components (above_of place) row cells j left))
    c.in-None.is c.in_ok-read_event.ensures.refused) in
    record {
      none = none_stands p w k n r.shape.width_at_least ok r.shape.width_below r.shape.components_at_most given rows row cells j left t
          (rows_above rows) refl none;
      never = none_comes p w k n r.shape.width_at_least ok r.shape.width_below r.shape.components_at_most given rows row cells j left t
          (rows_above rows) refl none;
      refuses = none;
    }

pub returns-in-Some-clause-event : goal.returns-in-Some-clause-event
returns-in-Some-clause-event c = λ p given r.
    let d = c.args.self.now in let w = d.width in let k = d.components in let n = d.count in
    let rows : List (List (List ℕ)) = d.rows in let row : List (List ℕ) = d.row.items in let left : List Bool = d.pending in
    let cells : Variables = d.coder.cells in let j = d.run_index in let place = c.next_place-place.result in
    let t = working p d given r c.requires.state in
    let row' : List (List ℕ) = c.read_event.new.row.items in let cells' : Variables = c.read_event.new.coder.cells in
    let left' : List Bool = c.read_event.new.pending in let next : ℕ = c.in-Some.next in
    let ok : AreCodingParameters p = subst AreCodingParameters r.shape.parameters d.coder.in_range in
    let here = (goal.at.returns-in-Some-clause-event c).After-next_place-place in let e = c.in_ok-read_event.ensures in
    let reads : ReadsEvent p w k (rows_above rows) row row' cells cells' j next left left' =
    of_reader here p given r (λ q w k up. ReadsEvent q w k up row row' cells cells' j next left left')
    (subst (λ (o : Option ℕ). IfSome o (λ z.
    ReadsEvent cells.parameters place.width place.components (above_of place) row row' cells cells' j z left left')) c.in-Some.is e.read) in
    let pixels : AllByRecursion (IsPixel p k) row' =
    of_reader here p given r (λ q w k up. AllByRecursion (IsPixel q k) row')
    (subst (λ (o : Option ℕ). IfSome o (λ _. AllByRecursion (IsPixel cells.parameters place.components) row')) c.in-Some.is e.pixels) in
    let grows : (length row < length row') × (length row' ≤ w) =
    of_reader here p given r (λ q w k up. (length row < length row') × (length row' ≤ w))
    (subst (λ (o : Option ℕ). IfSome o (λ _. GrowsWithin place row row')) c.in-Some.is e.columns) in
    let small : next ≤ 31 = subst (λ (o : Option ℕ). IfSome o (λ z. z ≤ 31)) c.in-Some.is e.run_index in
    record {
      shape = record {
        parameters = c.read_event.ensures.parameters ∙ r.shape.parameters;
        width_at_least = r.shape.width_at_least;
        width_below = r.shape.width_below;
        components_at_most = r.shape.components_at_most;
      };
      begun = event_taken p w k n r.shape.width_at_least ok r.shape.width_below r.shape.components_at_most given rows row cells j left t
          (rows_above rows) refl row' cells' next left' reads grows.1 pixels small;
    }
