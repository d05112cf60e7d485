use Rattle.std.proofs.Common.{ℕ, List, subst}
use Rattle.jls_pixel.specs.Pixels.{RowsAbove, pixel_neighbours}
use Rattle.jls_pixel.specs.Place.{above_of}
use Rattle.jls_pixel.specs.Reading.{RefusesPixel, ReadsPixel}
use Rattle.jls_pixel.specs.declared.sample.SampleKind.TheVariants.{Regular}
use Rattle.jls_pixel.proofs.EventSteps.{regular_event, no_regular_event}
use Rattle.jls_pixel.proofs.event.read_regular_pixel.Goals as goal

pub returns-in-None-clause-refused : goal.returns-in-None-clause-refused
returns-in-None-clause-refused c = λ earlier t.
    let p = c.args.coder.now.cells.parameters in let w = c.args.place.now.width in let n = c.args.place.now.components in
    let up : RowsAbove = above_of c.args.place.now in let row : List (List ℕ) = c.args.row.now.items in
    let cells = c.args.coder.now.cells in let given = c.args.pending.now in
    let none : RefusesPixel p Regular (pixel_neighbours w up row n) cells given =
    subst (λ z. RefusesPixel p Regular (pixel_neighbours w up z n) cells given) c.deref.ensures.value c.in-None.ensures.refused in
    no_regular_event p c.args.coder.now.in_range w n up c.requires.above row c.requires.row cells c.args.run_index c.requires.run_index
    earlier t given c.requires.mode none

pub returns-in_ok-push-in-Some-clause-read : goal.returns-in_ok-push-in-Some-clause-read
returns-in_ok-push-in-Some-clause-read c = λ earlier t.
    let p = c.args.coder.now.cells.parameters in let w = c.args.place.now.width in let n = c.args.place.now.components in
    let up : RowsAbove = above_of c.args.place.now in let row : List (List ℕ) = c.args.row.now.items in
    let cells = c.args.coder.now.cells in let given = c.args.pending.now in
    let cells' = c.read_pixel.new.coder.cells in let left' = c.read_pixel.new.pending in let pixel : List ℕ = c.in-Some.pixel in
    let reads : ReadsPixel p Regular (pixel_neighbours w up row n) pixel cells cells' given left' =
    subst (λ z. ReadsPixel p Regular (pixel_neighbours w up z n) pixel cells cells' given left') c.deref.ensures.value
    c.in-Some.ensures.read in
    regular_event p c.args.coder.now.in_range w n up c.requires.above row c.requires.row cells c.args.run_index c.requires.run_index
    earlier t given pixel c.push.new.self.items cells' left' c.requires.mode c.in-Some.ensures.pixel c.in_ok-push-in-Some.ensures.items
    reads
