use Rattle.std.proofs.Common.{◌≡◌, ℕ, Bool, true, false, List, subst}
use Rattle.std.specs.List.{AllByRecursion}
use Rattle.jls_values.specs.Params.{CodingParameters}
use Rattle.jls_context.specs.Variables.{Variables}
use Rattle.jls_pixel.specs.Pixels.{RowsAbove, IsPixel, rows_above}
use Rattle.jls_pixel.specs.Place.{above_of}
use Rattle.jls_pixel.specs.PixelReading.{IsReading, ForBitsOf}
use Rattle.jls_pixel.specs.OpenEvents.{CutsEvents, CutsNoEvent}
use Rattle.jls_pixel.specs.CutRows.{IsCut, CutsNothing}
use Rattle.jls_pixel.proofs.EventSteps.{if_ok}
use Rattle.jls_pixel.proofs.RowSteps.{begun_above}
use Rattle.jls_pixel.proofs.PixelReading.{working, same_place}
use Rattle.jls_pixel.proofs.CutRows.{reading_cut}
use Rattle.jls_pixel.proofs.pixel_reader.PixelReader.is_cut.Goals as goal
use Rattle.jls_pixel.proofs.pixel_reader.PixelReader.is_cut.Goals.{After-deref}

-- what holds of the copies, and at the place, holds of the reader
of_reader : (c : After-deref) (p : CodingParameters) (given : List Bool) → IsReading p given c.args.self.now
    → (P : CodingParameters → ℕ → ℕ → RowsAbove → List (List ℕ) → Variables → List Bool → Type 0)
    → (let place = c.next_place-place.result in let copy = c.to_owned-coder.result.cells in
    P copy.parameters place.width place.components (above_of place) c.deref.result.now copy c.in_ok-pending.pending)
    → (let d = c.args.self.now in P p d.width d.components (rows_above d.rows) d.row.items d.coder.cells d.pending)
of_reader c p given r P x =
    let d = c.args.self.now in let cells : Variables = d.coder.cells in let q = cells.parameters in let e = c.next_place-place.ensures in
    let place = c.next_place-place.result in let w = place.width in let k = place.components in let up : RowsAbove = above_of place in
    same_place d place e.width e.components e.above p r.shape.parameters (λ q w k up. P q w k up d.row.items cells d.pending)
    (subst (λ z. P q w k up d.row.items cells z) c.in_ok-pending.ensures
    (subst (λ z. P q w k up z cells c.in_ok-pending.pending) c.deref.ensures.value
    (subst (λ (z : Variables). P z.parameters w k up c.deref.result.now z c.in_ok-pending.pending) c.to_owned-coder.ensures x)))

pub event_is_cut-requires-clause-above : goal.event_is_cut-requires-clause-above
event_is_cut-requires-clause-above c =
    let h = c.requires.reading in let p : CodingParameters = h.0 in let given : List Bool = h.1 in let r = h.2 in
    let d = c.args.self.now in let place = c.next_place-place.result in let q = c.to_owned-coder.result.cells.parameters in
    let t = working p d given r c.requires.state in
    of_reader (goal.at.event_is_cut-requires-clause-above c).After-deref p given r
    (λ z w k up row cells left. AllByRecursion (IsPixel z k) up.row_above → AllByRecursion (IsPixel q place.components) place.row_above.now)
    (λ pixels. pixels)
    (begun_above p d.width d.components d.count r.shape.width_at_least given d.rows d.row.items d.coder.cells d.run_index d.pending
    t.begun.begun t.unfinished)

pub event_is_cut-requires-clause-row : goal.event_is_cut-requires-clause-row
event_is_cut-requires-clause-row c =
    let h = c.requires.reading in let p : CodingParameters = h.0 in let given : List Bool = h.1 in let r = h.2 in
    let place = c.next_place-place.result in let q = c.to_owned-coder.result.cells.parameters in
    let t = working p c.args.self.now given r c.requires.state in
    of_reader (goal.at.event_is_cut-requires-clause-row c).After-deref p given r
    (λ z w k up row cells left. AllByRecursion (IsPixel z k) row → AllByRecursion (IsPixel q place.components) c.deref.result.now)
    (λ pixels. pixels) t.begun.pixels

pub returns-clause-yes : goal.returns-clause-yes
returns-clause-yes c =
    let d = c.args.self.now in let place = c.next_place-place.result in let copy : Variables = c.to_owned-coder.result.cells in
    let P : CodingParameters → ℕ → ℕ → RowsAbove → List (List ℕ) → Variables → List Bool → Type 0 =
    λ q w k up row cells left. CutsEvents q w k up row cells d.run_index left in
    if_ok c.event_is_cut.result
    (λ cut. cut ≡ true → P copy.parameters place.width place.components (above_of place) c.deref.result.now copy c.in_ok-pending.pending)
    (λ cut. cut ≡ true → ForBitsOf d (λ p given. IsCut p given d))
    (λ cut h e p given r. reading_cut p d given r c.requires.state
    (of_reader (goal.at.returns-clause-yes c).After-deref p given r P (h e))) c.event_is_cut.ensures.yes

pub returns-clause-no : goal.returns-clause-no
returns-clause-no c =
    let d = c.args.self.now in let place = c.next_place-place.result in let copy : Variables = c.to_owned-coder.result.cells in
    let P : CodingParameters → ℕ → ℕ → RowsAbove → List (List ℕ) → Variables → List Bool → Type 0 =
    λ q w k up row cells left. CutsNoEvent q w k up row cells d.run_index left in
    if_ok c.event_is_cut.result
    (λ cut. cut ≡ false → P copy.parameters place.width place.components (above_of place) c.deref.result.now copy c.in_ok-pending.pending)
    (λ cut. cut ≡ false → ForBitsOf d (λ p given. CutsNothing p d))
    (λ cut h e p given r. of_reader (goal.at.returns-clause-no c).After-deref p given r P (h e)) c.event_is_cut.ensures.no
