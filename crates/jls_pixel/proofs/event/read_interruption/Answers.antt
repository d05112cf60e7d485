use Rattle.std.proofs.Common.{◌≡◌, ℕ, List, sym, ap, ◌∙◌, subst}
use Rattle.std.specs.Cmp.Lexicographic.{same_text}
use Rattle.jls_interval.specs.Runs.{run_order}
use Rattle.jls_pixel.specs.Pixels.{RowsAbove, pixel_neighbours, run_value}
use Rattle.jls_pixel.specs.Place.{above_of}
use Rattle.jls_pixel.specs.Reading.{RefusesPixel, ReadsPixel}
use Rattle.jls_pixel.specs.declared.sample.SampleKind.TheVariants.{Interrupting}
use Rattle.jls_pixel.proofs.EventSteps.{refused_interruption, own_interruption}
use Rattle.jls_pixel.proofs.event.read_interruption.Goals as goal

pub returns-in-None-clause-refused : goal.returns-in-None-clause-refused
returns-in-None-clause-refused c =
    let p = c.args.coder.now.cells.parameters in let w = c.args.place.now.width in let n = c.args.place.now.components in
    let up : RowsAbove = above_of c.args.place.now in let row : List (List ℕ) = c.args.row.now.items in
    let cells = c.args.coder.now.cells in let given = c.args.pending.now in let r = c.args.run_index in
    let none : RefusesPixel p (Interrupting (run_order r)) (pixel_neighbours w up row n) cells given =
    subst (λ z. RefusesPixel p (Interrupting (run_order r)) (pixel_neighbours w up z n) cells given) c.deref.ensures.value
    (subst (λ z. RefusesPixel p (Interrupting z) (pixel_neighbours w up c.deref.result.now n) cells given) c.run_order.ensures.value
    c.in-None.ensures.refused) in
    refused_interruption p c.args.coder.now.in_range w n up c.requires.above row c.requires.row cells cells r given given none

pub returns-then-is_run_value-clause-refused : goal.returns-then-is_run_value-clause-refused
returns-then-is_run_value-clause-refused c =
    let p = c.args.coder.now.cells.parameters in let w = c.args.place.now.width in let n = c.args.place.now.components in
    let up : RowsAbove = above_of c.args.place.now in let row : List (List ℕ) = c.args.row.now.items in
    let cells = c.args.coder.now.cells in let given = c.args.pending.now in let r = c.args.run_index in
    let cells' = c.read_pixel.new.coder.cells in let left' = c.read_pixel.new.pending in let pixel : List ℕ = c.in-Some.pixel in
    let reads : ReadsPixel p (Interrupting (run_order r)) (pixel_neighbours w up row n) pixel cells cells' given left' =
    subst (λ z. ReadsPixel p (Interrupting (run_order r)) (pixel_neighbours w up z n) pixel cells cells' given left') c.deref.ensures.value
    (subst (λ z. ReadsPixel p (Interrupting z) (pixel_neighbours w up c.deref.result.now n) pixel cells cells' given left')
    c.run_order.ensures.value c.in-Some.ensures.read) in
    let own : pixel ≡ run_value (pixel_neighbours w up row n) =
    same_text pixel (run_value (pixel_neighbours w up c.deref-in-Some.result.now n)) (sym c.if-is_run_value.true ∙ c.is_run_value.ensures)
    ∙ ap (λ z. run_value (pixel_neighbours w up z n)) c.deref-in-Some.ensures.value in
    own_interruption p c.args.coder.now.in_range w n up c.requires.above row c.requires.row cells cells' r given left' pixel
    c.in-Some.ensures.pixel reads own
