use Rattle.std.proofs.Common.{◌≡◌, ℕ, ◌+◌, ◌-◌, List, [], ◌∷◌, length, sym, subst, arith}
use Rattle.std.specs.Prelude.{Option, IfSome, IfNone}
use Rattle.std.specs.List.{AllByRecursion}
use Rattle.jls_pixel.specs.Pixels.{RowsAbove, IsPixel}
use Rattle.jls_pixel.specs.Place.{above_of}
use Rattle.jls_pixel.specs.RunRead.{RunIs, IsRun}
use Rattle.jls_pixel.specs.EventRead.{ReadsEvent, RefusesEvent}
use Rattle.jls_pixel.specs.InterruptionRead.{InterruptionRead, NoInterruption}
use Rattle.jls_pixel.specs.declared.run.Run.TheVariants.{ToEnd, Interrupted}
use Rattle.jls_pixel.proofs.PixelLists.{all_append}
use Rattle.jls_pixel.proofs.EventSteps.{no_run_event, to_end_event, interruption_event, no_interruption_event, run_pixels_of, if_ok}
use Rattle.jls_pixel.proofs.EventSteps.{if_some, if_none}
use Rattle.jls_pixel.proofs.event.read_run_pixels.Goals as goal

pub returns-in-None-clause-refused : goal.returns-in-None-clause-refused
returns-in-None-clause-refused c = λ earlier t.
    let p = c.args.coder.now.cells.parameters in let w = c.args.place.now.width in let n = c.args.place.now.components in
    let up : RowsAbove = above_of c.args.place.now in let row : List (List ℕ) = c.args.row.now.items in
    let w0 : ℕ = w - c.len.result in let w0_is : length row + w0 ≡ w = (let a = c.requires.column in let b =
    c.len.ensures in omega arith) in
    no_run_event p c.args.coder.now.in_range w n up c.requires.above row c.requires.row c.args.coder.now.cells c.args.run_index
    c.requires.run_index earlier t c.args.pending.now w0 w0_is c.requires.mode c.in-None.ensures.none

pub returns-in_ok-push_run-in-Some-ToEnd-clause-read : goal.returns-in_ok-push_run-in-Some-ToEnd-clause-read
returns-in_ok-push_run-in-Some-ToEnd-clause-read c = λ earlier t.
    let p = c.args.coder.now.cells.parameters in let w = c.args.place.now.width in let n = c.args.place.now.components in
    let up : RowsAbove = above_of c.args.place.now in let row : List (List ℕ) = c.args.row.now.items in
    let w0 : ℕ = w - c.len.result in let w0_is : length row + w0 ≡ w = (let a = c.requires.column in let b =
    c.len.ensures in omega arith) in
    let x = c.in-Some-ToEnd in let given = c.args.pending.now in let left = c.read_run.new.pending in
    let is : RunIs c.args.run_index w0 given left (ToEnd x.run_index) =
    subst (λ z. RunIs c.args.run_index w0 given left z) x.field-0-is x.ensures.some in
    to_end_event p c.args.coder.now.in_range w n up c.requires.above row c.requires.row c.args.coder.now.cells c.args.run_index
    c.requires.run_index earlier t given w0 w0_is c.requires.mode x.run_index c.push_run.new.row.items left
    c.in_ok-push_run-in-Some-ToEnd.ensures is

pub returns-in_ok-push_run-in-Some-ToEnd-clause-pixels : goal.returns-in_ok-push_run-in-Some-ToEnd-clause-pixels
returns-in_ok-push_run-in-Some-ToEnd-clause-pixels c =
    let p = c.args.coder.now.cells.parameters in let w = c.args.place.now.width in let n = c.args.place.now.components in
    let up : RowsAbove = above_of c.args.place.now in let row : List (List ℕ) = c.args.row.now.items in
    subst (AllByRecursion (IsPixel p n)) (sym c.in_ok-push_run-in-Some-ToEnd.ensures)
    (run_pixels_of p w n up c.requires.above row c.requires.row (w - c.len.result))

pub read_interruption-requires-clause-row : goal.read_interruption-requires-clause-row
read_interruption-requires-clause-row c =
    let p = c.args.coder.now.cells.parameters in let w = c.args.place.now.width in let n = c.args.place.now.components in
    let up : RowsAbove = above_of c.args.place.now in let row : List (List ℕ) = c.args.row.now.items in
    subst (AllByRecursion (IsPixel p n)) (sym c.in_ok-push_run-in-Some-Interrupted.ensures)
    (run_pixels_of p w n up c.requires.above row c.requires.row c.in-Some-Interrupted.count)

pub returns-in_ok-push_run-in-Some-Interrupted-clause-read : goal.returns-in_ok-push_run-in-Some-Interrupted-clause-read
returns-in_ok-push_run-in-Some-Interrupted-clause-read c =
    let p = c.args.coder.now.cells.parameters in let w = c.args.place.now.width in let n = c.args.place.now.components in
    let up : RowsAbove = above_of c.args.place.now in let row : List (List ℕ) = c.args.row.now.items in
    let w0 : ℕ = w - c.len.result in let w0_is : length row + w0 ≡ w = (let a = c.requires.column in let b =
    c.len.ensures in omega arith) in
    let x = c.in-Some-Interrupted in let given = c.args.pending.now in let left = c.read_run.new.pending in
    let is : RunIs c.args.run_index w0 given left (Interrupted x.count x.run_index) =
    subst (λ z. RunIs c.args.run_index w0 given left z) x.field-0-is x.ensures.some in
    let within : IsRun w0 (Interrupted x.count x.run_index) = subst (IsRun w0) x.field-0-is x.ensures.run in
    let row1 : List (List ℕ) = c.push_run-in-Some-Interrupted.new.row.items in let row2 = c.read_interruption.new.row.items in
    let cells = c.args.coder.now.cells in let cells' = c.read_interruption.new.coder.cells in let left' =
    c.read_interruption.new.pending in
    if_ok c.read_interruption.result
    (λ (o : Option ℕ). IfSome o (λ next. InterruptionRead p w n up row1 row2 cells cells' x.run_index next left left'))
    (λ (o : Option ℕ). IfSome o (λ next. ReadsEvent p w n up row row2 cells cells' c.args.run_index next given left'))
    (λ o. if_some o (λ next. InterruptionRead p w n up row1 row2 cells cells' x.run_index next left left')
    (λ next. ReadsEvent p w n up row row2 cells cells' c.args.run_index next given left')
    (λ next y earlier t. interruption_event p c.args.coder.now.in_range w n up c.requires.above row c.requires.row cells c.args.run_index
    c.requires.run_index earlier t given w0 w0_is c.requires.mode x.count within.0 x.run_index left is row1 row2 cells' next left'
    c.in_ok-push_run-in-Some-Interrupted.ensures y)) c.read_interruption.ensures.read

pub returns-in_ok-push_run-in-Some-Interrupted-clause-pixels : goal.returns-in_ok-push_run-in-Some-Interrupted-clause-pixels
returns-in_ok-push_run-in-Some-Interrupted-clause-pixels c =
    let p = c.args.coder.now.cells.parameters in let w = c.args.place.now.width in let n = c.args.place.now.components in
    let up : RowsAbove = above_of c.args.place.now in let row : List (List ℕ) = c.args.row.now.items in
    let x = c.in-Some-Interrupted in let left = c.read_run.new.pending in
    let row1 : List (List ℕ) = c.push_run-in-Some-Interrupted.new.row.items in let row2 : List (List ℕ) =
    c.read_interruption.new.row.items in
    let cells = c.args.coder.now.cells in let cells' = c.read_interruption.new.coder.cells in let left' =
    c.read_interruption.new.pending in
    let small : AllByRecursion (IsPixel p n) row1 = subst (AllByRecursion (IsPixel p n)) (sym c.in_ok-push_run-in-Some-Interrupted.ensures)
    (run_pixels_of p w n up c.requires.above row c.requires.row x.count) in
    if_ok c.read_interruption.result
    (λ (o : Option ℕ). IfSome o (λ next. InterruptionRead p w n up row1 row2 cells cells' x.run_index next left left'))
    (λ (o : Option ℕ). IfSome o (λ _. AllByRecursion (IsPixel p n) row2))
    (λ o. if_some o (λ next. InterruptionRead p w n up row1 row2 cells cells' x.run_index next left left')
    (λ _. AllByRecursion (IsPixel p n) row2)
    (λ next y. subst (AllByRecursion (IsPixel p n)) (sym y.row_is)
    (all_append (IsPixel p n) row1 (y.pixel ∷ []) small (y.is_pixel, tt)))) c.read_interruption.ensures.read

pub returns-in_ok-push_run-in-Some-Interrupted-clause-refused : goal.returns-in_ok-push_run-in-Some-Interrupted-clause-refused
returns-in_ok-push_run-in-Some-Interrupted-clause-refused c =
    let p = c.args.coder.now.cells.parameters in let w = c.args.place.now.width in let n = c.args.place.now.components in
    let up : RowsAbove = above_of c.args.place.now in let row : List (List ℕ) = c.args.row.now.items in
    let w0 : ℕ = w - c.len.result in let w0_is : length row + w0 ≡ w = (let a = c.requires.column in let b =
    c.len.ensures in omega arith) in
    let x = c.in-Some-Interrupted in let given = c.args.pending.now in let left = c.read_run.new.pending in
    let is : RunIs c.args.run_index w0 given left (Interrupted x.count x.run_index) =
    subst (λ z. RunIs c.args.run_index w0 given left z) x.field-0-is x.ensures.some in
    let within : IsRun w0 (Interrupted x.count x.run_index) = subst (IsRun w0) x.field-0-is x.ensures.run in
    let row1 : List (List ℕ) = c.push_run-in-Some-Interrupted.new.row.items in let cells = c.args.coder.now.cells in
    if_ok c.read_interruption.result
    (λ (o : Option ℕ). IfNone o (NoInterruption p w n up row1 cells x.run_index left))
    (λ (o : Option ℕ). IfNone o (RefusesEvent p w n up row cells c.args.run_index given))
    (λ o. if_none o (NoInterruption p w n up row1 cells x.run_index left) (RefusesEvent p w n up row cells c.args.run_index given)
    (λ none earlier t. no_interruption_event p c.args.coder.now.in_range w n up c.requires.above row c.requires.row cells c.args.run_index
    c.requires.run_index earlier t given w0 w0_is c.requires.mode x.count within.0 x.run_index left is row1
    c.in_ok-push_run-in-Some-Interrupted.ensures none)) c.read_interruption.ensures.refused
