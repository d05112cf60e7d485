use Rattle.std.proofs.Common.{◌≡◌, ℕ, Bool, true, false, List, ◌∙◌, sym}
use Rattle.jls_context.specs.declared.mode.Neighbours.{Neighbours}
use Rattle.jls_pixel.specs.Pixels.{RowsAbove, pixel_neighbours, is_run_pixel}
use Rattle.jls_pixel.specs.Place.{above_of}
use Rattle.jls_pixel.specs.Cells.{coded_samples}
use Rattle.jls_pixel.specs.OpenEvents.{CutsPixels, CutsNoPixel, CutsEvents, CutsNoEvent}
use Rattle.jls_pixel.specs.declared.sample.SampleKind.TheVariants.{Regular}
use Rattle.jls_pixel.proofs.EventSteps.{if_ok}
use Rattle.jls_pixel.proofs.CutEvents.{regular_cut, regular_uncut}
use Rattle.jls_pixel.proofs.cut_event.event_is_cut.Goals as goal

pub returns-else-is_run-clause-yes : goal.returns-else-is_run-clause-yes
returns-else-is_run-clause-yes c =
    let p = c.args.coder.now.cells.parameters in let w = c.args.place.now.width in let n = c.args.place.now.components in
    let up : RowsAbove = above_of c.args.place.now in let row : List (List ℕ) = c.args.row.now in
    let given : List Bool = c.args.pending.now in let cells = c.args.coder.now.cells in
    let near : List Neighbours = pixel_neighbours w up row n in
    let mode : is_run_pixel near ≡ false = sym c.is_run.ensures ∙ c.if-is_run.false in
    if_ok c.pixel_is_cut.result (λ cut. cut ≡ true → CutsPixels p Regular near cells given)
    (λ cut. cut ≡ true → CutsEvents p w n up row cells c.args.run_index given)
    (λ cut h e earlier t. regular_cut p c.args.coder.now.in_range w n up c.requires.above row c.requires.row cells c.args.run_index
    c.requires.run_index earlier t given mode (h e (coded_samples earlier) t.cells_after)) c.pixel_is_cut.ensures.yes

pub returns-else-is_run-clause-no : goal.returns-else-is_run-clause-no
returns-else-is_run-clause-no c =
    let p = c.args.coder.now.cells.parameters in let w = c.args.place.now.width in let n = c.args.place.now.components in
    let up : RowsAbove = above_of c.args.place.now in let row : List (List ℕ) = c.args.row.now in
    let given : List Bool = c.args.pending.now in let cells = c.args.coder.now.cells in
    let near : List Neighbours = pixel_neighbours w up row n in
    let mode : is_run_pixel near ≡ false = sym c.is_run.ensures ∙ c.if-is_run.false in
    if_ok c.pixel_is_cut.result (λ cut. cut ≡ false → CutsNoPixel p Regular near cells given)
    (λ cut. cut ≡ false → CutsNoEvent p w n up row cells c.args.run_index given)
    (λ cut h e earlier t. regular_uncut p c.args.coder.now.in_range w n up c.requires.above row c.requires.row cells c.args.run_index
    c.requires.run_index earlier t given mode (h e (coded_samples earlier) t.cells_after)) c.pixel_is_cut.ensures.no
