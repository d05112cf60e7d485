use Rattle.std.proofs.Common.{◌≡◌, ℕ, ◌+◌, ◌-◌, ◌<◌, ◌≤◌, Bool, List, ◌++◌, length, replicate, sym, ap, ◌∙◌, subst, arith}
use Rattle.std.specs.Prelude.{true, false}
use Rattle.std.specs.List.{AllByRecursion}
use Rattle.std.proofs.lemmas.Bool.Decides.{nat_tests}
use Rattle.jls_interval.specs.Runs.{run_order}
use Rattle.jls_pixel.specs.Pixels.{IsPixel}
use Rattle.jls_pixel.specs.Place.{above_of, nears_at, run_value_at}
use Rattle.jls_pixel.specs.Cells.{coded_samples}
use Rattle.jls_pixel.specs.RunRead.{RunIs, IsRun}
use Rattle.jls_pixel.specs.OpenEvents.{RunEndIs, IsRunEnd, CutsPixels, CutsNoPixel, CutsEvents, CutsNoEvent}
use Rattle.jls_pixel.specs.declared.sample.SampleKind.TheVariants.{Interrupting}
use Rattle.jls_pixel.specs.declared.run.Run.TheVariants.{ToEnd, Interrupted}
use Rattle.jls_pixel.specs.declared.cut_run.RunEnd.{RunEnd}
use Rattle.jls_pixel.specs.declared.cut_run.RunEnd.TheVariants.{InBlocks, InCount, Refused}
use Rattle.jls_pixel.proofs.EventSteps.{if_ok, run_pixels_of}
use Rattle.jls_pixel.proofs.CutEvents.{run_refused, blocks_cut, count_cut, count_uncut, to_end_uncut, interruption_cut, interruption_uncut}
use Rattle.jls_pixel.proofs.cut_event.run_is_cut.Goals as goal
use Rattle.jls_pixel.proofs.cut_event.run_is_cut.Goals.{After-read_run_end, In-Whole-Interrupted, After-deref}

-- the columns that are left
abbrev columns_left : After-read_run_end → ℕ
columns_left c = c.args.place.now.width - length c.args.row.now

columns_are : (c : After-read_run_end) → length c.args.row.now + columns_left c ≡ c.args.place.now.width
columns_are c = let a = c.requires.column in omega arith

-- what the bits come to
end_is : (c : After-read_run_end) (end : RunEnd) → c.read_run_end.result ≡ end
    → RunEndIs c.args.run_index (columns_left c) c.args.pending.now c.read_run_end.new.pending end
end_is c end is =
    subst (RunEndIs c.args.run_index (columns_left c) c.args.pending.now c.read_run_end.new.pending) is c.read_run_end.ensures.end

-- they are a run that a pixel interrupts
run_is : (c : In-Whole-Interrupted) → RunIs c.args.run_index (c.args.place.now.width - length c.args.row.now) c.args.pending.now
    c.read_run_end.new.pending (Interrupted c.in-Whole-Interrupted.count c.in-Whole-Interrupted.run_index)
run_is c =
    let x = c.in-Whole-Interrupted in let w0 : ℕ = c.args.place.now.width - length c.args.row.now in
    let given : List Bool = c.args.pending.now in let left : List Bool = c.read_run_end.new.pending in
    subst (λ z. RunIs c.args.run_index w0 given left z) x.field-0-is
    (subst (RunEndIs c.args.run_index w0 given left) x.is c.read_run_end.ensures.end)

-- it leaves a column for that pixel
within : (c : In-Whole-Interrupted) → c.in-Whole-Interrupted.count < c.args.place.now.width - length c.args.row.now
within c =
    let x = c.in-Whole-Interrupted in let w0 : ℕ = c.args.place.now.width - length c.args.row.now in
    let is : IsRun w0 (Interrupted x.count x.run_index) =
    subst (IsRun w0) x.field-0-is (subst (IsRunEnd w0) x.is c.read_run_end.ensures.within) in is.0

-- the row with the run's pixels
longer_is : (c : After-deref) → c.deref.result.now
    ≡ c.args.row.now ++ replicate c.in-Whole-Interrupted.count (run_value_at c.args.place.now c.args.row.now)
longer_is c =
    c.deref.ensures.value ∙ c.in_ok-push_run-in-Whole-Interrupted.ensures
    ∙ ap (λ z. z ++ replicate c.in-Whole-Interrupted.count (run_value_at c.args.place.now z))
    c.in_ok-longer-in-Whole-Interrupted.ensures

pub returns-in-Refused-clause-no : goal.returns-in-Refused-clause-no
returns-in-Refused-clause-no c = λ _ earlier t.
    let coder = c.args.coder.now in let place = c.args.place.now in
    let here = (goal.at.returns-in-Refused-clause-no c).After-read_run_end in
    run_refused coder.cells.parameters coder.in_range place.width place.components (above_of place) c.requires.above c.args.row.now
    c.requires.row coder.cells c.args.run_index c.requires.run_index earlier t c.args.pending.now (columns_left here) (columns_are here)
    c.requires.mode (end_is here Refused c.in-Refused.is)

pub returns-in-InBlocks-clause-yes : goal.returns-in-InBlocks-clause-yes
returns-in-InBlocks-clause-yes c = λ _ earlier t.
    let coder = c.args.coder.now in let place = c.args.place.now in
    let here = (goal.at.returns-in-InBlocks-clause-yes c).After-read_run_end in
    blocks_cut coder.cells.parameters coder.in_range place.width place.components (above_of place) c.requires.above c.args.row.now
    c.requires.row coder.cells c.args.run_index c.requires.run_index earlier t c.args.pending.now (columns_left here) (columns_are here)
    c.requires.mode (end_is here InBlocks c.in-InBlocks.is)

pub returns-in-InCount-clause-yes : goal.returns-in-InCount-clause-yes
returns-in-InCount-clause-yes c = λ e earlier t.
    let coder = c.args.coder.now in let place = c.args.place.now in
    let here = (goal.at.returns-in-InCount-clause-yes c).After-read_run_end in
    let n : ℕ = place.components in let some : 0 < n = grind (arith, nat_tests, e) in
    count_cut coder.cells.parameters coder.in_range place.width place.components (above_of place) c.requires.above c.args.row.now
    c.requires.row coder.cells c.args.run_index c.requires.run_index earlier t c.args.pending.now (columns_left here) (columns_are here)
    c.requires.mode some (end_is here InCount c.in-InCount.is).0

pub returns-in-InCount-clause-no : goal.returns-in-InCount-clause-no
returns-in-InCount-clause-no c = λ e earlier t.
    let coder = c.args.coder.now in let place = c.args.place.now in
    let here = (goal.at.returns-in-InCount-clause-no c).After-read_run_end in
    let n : ℕ = place.components in let none : n ≤ 0 = grind (arith, nat_tests, e) in
    count_uncut coder.cells.parameters coder.in_range place.width place.components (above_of place) c.requires.above c.args.row.now
    c.requires.row coder.cells c.args.run_index c.requires.run_index earlier t c.args.pending.now (columns_left here) (columns_are here)
    c.requires.mode none (end_is here InCount c.in-InCount.is).1

pub returns-in-Whole-ToEnd-clause-no : goal.returns-in-Whole-ToEnd-clause-no
returns-in-Whole-ToEnd-clause-no c = λ _ earlier t.
    let coder = c.args.coder.now in let place = c.args.place.now in let x = c.in-Whole-ToEnd in
    let here = (goal.at.returns-in-Whole-ToEnd-clause-no c).After-read_run_end in
    let w0 : ℕ = columns_left here in let given : List Bool = c.args.pending.now in let left : List Bool = c.read_run_end.new.pending in
    let is : RunIs c.args.run_index w0 given left (ToEnd x.field-0-0) =
    subst (λ z. RunIs c.args.run_index w0 given left z) x.field-0-is (subst (RunEndIs c.args.run_index w0 given left) x.is
    c.read_run_end.ensures.end) in
    to_end_uncut coder.cells.parameters coder.in_range place.width place.components (above_of place) c.requires.above c.args.row.now
    c.requires.row coder.cells c.args.run_index c.requires.run_index earlier t c.args.pending.now w0 (columns_are here)
    c.requires.mode x.field-0-0 left is

pub pixel_is_cut-requires-clause-row : goal.pixel_is_cut-requires-clause-row
pixel_is_cut-requires-clause-row c =
    let p = c.args.coder.now.cells.parameters in let place = c.args.place.now in
    subst (AllByRecursion (IsPixel p place.components)) (sym (longer_is (goal.at.pixel_is_cut-requires-clause-row c).After-deref))
    (run_pixels_of p place.width place.components (above_of place) c.requires.above c.args.row.now c.requires.row
    c.in-Whole-Interrupted.count)

pub returns-in_ok-push_run-in-Whole-Interrupted-clause-yes : goal.returns-in_ok-push_run-in-Whole-Interrupted-clause-yes
returns-in_ok-push_run-in-Whole-Interrupted-clause-yes c =
    let coder = c.args.coder.now in let p = coder.cells.parameters in let cells = coder.cells in let place = c.args.place.now in
    let row : List (List ℕ) = c.args.row.now in let given : List Bool = c.args.pending.now in
    let left : List Bool = c.read_run_end.new.pending in let x = c.in-Whole-Interrupted in
    let at = goal.at.returns-in_ok-push_run-in-Whole-Interrupted-clause-yes c in
    let longer : List (List ℕ) = row ++ replicate x.count (run_value_at place row) in let order : ℕ = c.run_order.result in
    if_ok c.pixel_is_cut.result
    (λ cut. cut ≡ true → CutsPixels p (Interrupting order) (nears_at place c.deref.result.now) cells left)
    (λ cut. cut ≡ true → CutsEvents p place.width place.components (above_of place) row cells c.args.run_index given)
    (λ cut h e earlier t.
    (let pixels : CutsPixels p (Interrupting (run_order x.run_index)) (nears_at place longer) cells left =
    subst (λ z. CutsPixels p (Interrupting z) (nears_at place longer) cells left) c.run_order.ensures.value
    (subst (λ z. CutsPixels p (Interrupting order) (nears_at place z) cells left) (longer_is at.After-deref) (h e)) in
    interruption_cut p coder.in_range place.width place.components (above_of place) c.requires.above row c.requires.row cells
    c.args.run_index c.requires.run_index earlier t given (columns_left at.After-read_run_end) (columns_are at.After-read_run_end)
    c.requires.mode x.count (within at.In-Whole-Interrupted) x.run_index left (run_is at.In-Whole-Interrupted)
    (pixels (coded_samples earlier) t.cells_after)))
    c.pixel_is_cut.ensures.yes

pub returns-in_ok-push_run-in-Whole-Interrupted-clause-no : goal.returns-in_ok-push_run-in-Whole-Interrupted-clause-no
returns-in_ok-push_run-in-Whole-Interrupted-clause-no c =
    let coder = c.args.coder.now in let p = coder.cells.parameters in let cells = coder.cells in let place = c.args.place.now in
    let row : List (List ℕ) = c.args.row.now in let given : List Bool = c.args.pending.now in
    let left : List Bool = c.read_run_end.new.pending in let x = c.in-Whole-Interrupted in
    let at = goal.at.returns-in_ok-push_run-in-Whole-Interrupted-clause-no c in
    let longer : List (List ℕ) = row ++ replicate x.count (run_value_at place row) in let order : ℕ = c.run_order.result in
    if_ok c.pixel_is_cut.result
    (λ cut. cut ≡ false → CutsNoPixel p (Interrupting order) (nears_at place c.deref.result.now) cells left)
    (λ cut. cut ≡ false → CutsNoEvent p place.width place.components (above_of place) row cells c.args.run_index given)
    (λ cut h e earlier t.
    (let pixels : CutsNoPixel p (Interrupting (run_order x.run_index)) (nears_at place longer) cells left =
    subst (λ z. CutsNoPixel p (Interrupting z) (nears_at place longer) cells left) c.run_order.ensures.value
    (subst (λ z. CutsNoPixel p (Interrupting order) (nears_at place z) cells left) (longer_is at.After-deref) (h e)) in
    interruption_uncut p coder.in_range place.width place.components (above_of place) c.requires.above row c.requires.row cells
    c.args.run_index c.requires.run_index earlier t given (columns_left at.After-read_run_end) (columns_are at.After-read_run_end)
    c.requires.mode x.count (within at.In-Whole-Interrupted) x.run_index left (run_is at.In-Whole-Interrupted)
    (pixels (coded_samples earlier) t.cells_after)))
    c.pixel_is_cut.ensures.no
