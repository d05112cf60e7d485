-- A row in work at its place: names that contracts of readers share.
use Rattle.std.specs.Prelude.{ℕ, ◌<◌, ◌≤◌, Bool, List, length}
use Rattle.std.specs.List.{AllByRecursion}
use Rattle.jls_pixel.specs.Pixels.{IsPixel}
use Rattle.jls_pixel.specs.Place.{above_of, nears_at}
use Rattle.jls_pixel.specs.Reading.{ReadsPixel, RefusesPixel}
use Rattle.jls_pixel.specs.EventRead.{ReadsEvent, RefusesEvent}
use Rattle.jls_pixel.specs.InterruptionRead.{InterruptionRead, NoInterruption}
use Rattle.jls_pixel.specs.OpenEvents.{CutsPixels, CutsNoPixel, CutsEvents, CutsNoEvent}
use Rattle.jls_pixel.specs.declared.coder.Coder.{Coder}
use Rattle.jls_pixel.specs.declared.place.Place.{Place}
use Rattle.jls_pixel.specs.declared.sample.SampleKind.{SampleKind}

-- each is a pixel: it has a sample of each component, and none above MAXVAL
abbrev pub ArePixels : Coder → Place → List (List ℕ) → Type 0
ArePixels coder place row = AllByRecursion (IsPixel coder.cells.parameters place.components) row

-- so is each of the row above
abbrev pub ArePixelsAbove : Coder → Place → Type 0
ArePixelsAbove coder place = AllByRecursion (IsPixel coder.cells.parameters place.components) place.row_above.now

-- the row has more pixels than before, and no more than it may have
abbrev pub GrowsWithin : Place → List (List ℕ) → List (List ℕ) → Type 0
GrowsWithin place row row' = (length row < length row') × (length row' ≤ place.width)

-- Pixels --------------------------------------------------------------------------------------------

-- a coder read the pixel that follows these pixels of the row
abbrev pub ReadsPixelAt : Place → List (List ℕ) → Coder → Coder → SampleKind → List Bool → List Bool → List ℕ → Type 0
ReadsPixelAt place row old new kind given unread pixel =
    ReadsPixel old.cells.parameters kind (nears_at place row) pixel old.cells new.cells given unread

-- no such pixel stands at the start of the bits
abbrev pub RefusesPixelAt : Place → List (List ℕ) → Coder → SampleKind → List Bool → Type 0
RefusesPixelAt place row coder kind = RefusesPixel coder.cells.parameters kind (nears_at place row) coder.cells

-- the bits are a proper prefix of those of such a pixel
abbrev pub CutsPixelsAt : Place → List (List ℕ) → Coder → SampleKind → List Bool → Type 0
CutsPixelsAt place row coder kind = CutsPixels coder.cells.parameters kind (nears_at place row) coder.cells

-- they are that of none
abbrev pub CutsNoPixelAt : Place → List (List ℕ) → Coder → SampleKind → List Bool → Type 0
CutsNoPixelAt place row coder kind = CutsNoPixel coder.cells.parameters kind (nears_at place row) coder.cells

-- Events --------------------------------------------------------------------------------------------

-- an event was read, from one RUNindex to the next, and the row grew by its pixels
abbrev pub ReadsEventAt : Place → List (List ℕ) → List (List ℕ) → Coder → Coder → ℕ → List Bool → List Bool → ℕ → Type 0
ReadsEventAt place row row' old new run_index given unread run_index' =
    ReadsEvent old.cells.parameters place.width place.components (above_of place) row row' old.cells new.cells run_index run_index'
    given unread

-- no event that can come next stands at the start of the bits
abbrev pub RefusesEventAt : Place → List (List ℕ) → Coder → ℕ → List Bool → Type 0
RefusesEventAt place row coder =
    RefusesEvent coder.cells.parameters place.width place.components (above_of place) row coder.cells

-- the bits are a proper prefix of those of an event that can come next
abbrev pub CutsEventsAt : Place → List (List ℕ) → Coder → ℕ → List Bool → Type 0
CutsEventsAt place row coder = CutsEvents coder.cells.parameters place.width place.components (above_of place) row coder.cells

-- they are that of none
abbrev pub CutsNoEventAt : Place → List (List ℕ) → Coder → ℕ → List Bool → Type 0
CutsNoEventAt place row coder = CutsNoEvent coder.cells.parameters place.width place.components (above_of place) row coder.cells

-- the pixel that interrupts a run was read and added to the row, and RUNindex fell (T.87 A.7.2)
abbrev pub InterruptionReadAt : Place → List (List ℕ) → List (List ℕ) → Coder → Coder → ℕ → List Bool → List Bool → ℕ → Type 0
InterruptionReadAt place row row' old new run_index given unread run_index' =
    InterruptionRead old.cells.parameters place.width place.components (above_of place) row row' old.cells new.cells
    run_index run_index' given unread

-- no such pixel stands at the start of the bits
abbrev pub NoInterruptionAt : Place → List (List ℕ) → Coder → ℕ → List Bool → Type 0
NoInterruptionAt place row coder =
    NoInterruption coder.cells.parameters place.width place.components (above_of place) row coder.cells
