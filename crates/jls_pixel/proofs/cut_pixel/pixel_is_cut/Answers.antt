use Rattle.std.proofs.Common.{ℕ, Bool, ◌+◌, ◌≤◌, [], ◌∷◌, ◌++◌, List, length, refl, sym, ap, ◌∙◌, subst, arith, length-append}
use Rattle.std.specs.Prelude.{Option}
use Rattle.std.specs.List.{AllByRecursion}
use Rattle.jls_values.specs.Params.{CodingParameters}
use Rattle.jls_context.specs.declared.mode.Neighbours.{Neighbours}
use Rattle.jls_pixel.specs.Place.{above_of, near_at, run_value_at}
use Rattle.jls_pixel.specs.Reading.{ReadsSample, RefusesSample}
use Rattle.jls_pixel.specs.OpenEvents.{IsExcepted, CutsSamples, CutsNoSample}
use Rattle.jls_pixel.proofs.PixelLists.{near_small, all_append}
use Rattle.jls_pixel.proofs.PixelBegun.{PixelBegun, begun_none, begun_more}
use Rattle.jls_pixel.proofs.CutPixels.{pixel_cut, pixel_uncut, whole_uncut}
use Rattle.jls_pixel.proofs.cut_pixel.pixel_is_cut.Goals as goal
use Rattle.jls_pixel.proofs.cut_pixel.pixel_is_cut.Goals.{After-neighbours-near, After-excepted_sample-except}

-- what holds by the coder so far and the neighbours that were found, holds by the first coder and the place
at_place : (c : After-neighbours-near) (P : CodingParameters → Neighbours → Type 0)
    → P c.loop-component.coder.cells.parameters c.neighbours-near.result
    → P c.args.coder.now.cells.parameters (near_at c.args.place.now c.args.row.now c.loop-component.component)
at_place c P x =
    subst (λ (z : Neighbours). P c.args.coder.now.cells.parameters z) c.neighbours-near.ensures
    (subst (λ (z : CodingParameters). P z c.neighbours-near.result) c.loop-component.invariant.parameters x)

-- the sample above is one
above_small : (c : After-neighbours-near) → c.neighbours-near.result.rb ≤ c.loop-component.coder.cells.parameters.maxval
above_small c =
    let p = c.args.coder.now.cells.parameters in let place = c.args.place.now in
    let near = near_small p place.components place.width (above_of place) c.requires.above c.args.row.now c.requires.row
    c.loop-component.component in
    at_place c (λ q z. z.rb ≤ q.maxval → c.neighbours-near.result.rb ≤ c.loop-component.coder.cells.parameters.maxval)
    (λ small. small) near.rb

-- the sample that is excepted
excepted_is : (c : After-excepted_sample-except)
    → IsExcepted c.args.kind (run_value_at c.args.place.now c.args.row.now) c.loop-component.pixel
    (near_at c.args.place.now c.args.row.now c.loop-component.component).ra c.excepted_sample-except.result
excepted_is c =
    subst (λ (z : Neighbours). IsExcepted c.args.kind (run_value_at c.args.place.now c.args.row.now) c.loop-component.pixel z.ra
    c.excepted_sample-except.result) c.neighbours-near.ensures c.excepted_sample-except.ensures

pub loop-component-init : goal.loop-component-init
loop-component-init c =
    let cells = c.args.coder.now.cells in let p = cells.parameters in let given = c.args.pending.now in let n =
    c.args.place.now.components in
    let f : ℕ → Neighbours = near_at c.args.place.now c.args.row.now in
    record {
      begun = λ earlier t. subst (λ z. PixelBegun p c.args.kind f n given earlier z 0 cells given) (sym c.new-pixel.ensures)
          (begun_none p c.args.kind f n given earlier cells t);
      count = ap length c.new-pixel.ensures;
      small = subst (AllByRecursion (λ s. s ≤ p.maxval)) (sym c.new-pixel.ensures) tt;
      parameters = refl;
    }

pub read_sample-requires-clause-above : goal.read_sample-requires-clause-above
read_sample-requires-clause-above c = above_small (goal.at.read_sample-requires-clause-above c).After-neighbours-near

pub sample_is_cut-requires-clause-above : goal.sample_is_cut-requires-clause-above
sample_is_cut-requires-clause-above c = above_small (goal.at.sample_is_cut-requires-clause-above c).After-neighbours-near

pub returns-then-branch-clause-yes : goal.returns-then-branch-clause-yes
returns-then-branch-clause-yes c = λ _ earlier t.
    let p = c.args.coder.now.cells.parameters in let i = c.loop-component.invariant in let n = c.args.place.now.components in
    let k = c.loop-component.component in let f : ℕ → Neighbours = near_at c.args.place.now c.args.row.now in
    let cells = c.loop-component.coder.cells in let left : List Bool = c.loop-component.pending in
    let except : Option ℕ = c.excepted_sample-except.result in let at = goal.at.returns-then-branch-clause-yes c in
    let cuts : CutsSamples p c.args.kind (f k) except cells left =
    at_place at.After-neighbours-near (λ q near. CutsSamples q c.args.kind near except cells left)
    (c.in_ok-sample_is_cut.ensures.yes c.if-branch.true) in
    let b = i.begun earlier t in
    pixel_cut p c.args.coder.now.in_range c.args.kind f n c.args.pending.now earlier c.loop-component.pixel k cells left b i.count
    c.loop-component-test.true except (excepted_is at.After-excepted_sample-except) i.small (cuts (earlier ++ b.done) b.cells_after)

pub returns-in-None-clause-no : goal.returns-in-None-clause-no
returns-in-None-clause-no c = λ _ earlier t x.
    let p = c.args.coder.now.cells.parameters in let i = c.loop-component.invariant in let n = c.args.place.now.components in
    let k = c.loop-component.component in let f : ℕ → Neighbours = near_at c.args.place.now c.args.row.now in
    let cells = c.loop-component.coder.cells in let left : List Bool = c.loop-component.pending in
    let except : Option ℕ = c.excepted_sample-except.result in let at = goal.at.returns-in-None-clause-no c in
    let uncut : CutsNoSample p c.args.kind (f k) except cells left =
    at_place at.After-neighbours-near (λ q near. CutsNoSample q c.args.kind near except cells left)
    (c.in_ok-sample_is_cut.ensures.no c.if-branch.false) in
    let none : RefusesSample p c.args.kind (f k) cells left =
    at_place at.After-neighbours-near (λ q near. RefusesSample q c.args.kind near cells left) c.in-None.ensures.refused in
    let b = i.begun earlier t in
    pixel_uncut p c.args.coder.now.in_range c.args.kind f n c.args.pending.now earlier c.loop-component.pixel k cells left b i.count
    c.loop-component-test.true except (excepted_is at.After-excepted_sample-except) (none (earlier ++ b.done) b.cells_after)
    (uncut (earlier ++ b.done) b.cells_after) x

pub loop-component-preserved : goal.loop-component-preserved
loop-component-preserved c =
    let p = c.args.coder.now.cells.parameters in let i = c.loop-component.invariant in let place = c.args.place.now in
    let n = place.components in let k = c.loop-component.component in let f : ℕ → Neighbours = near_at place c.args.row.now in
    let cells = c.loop-component.coder.cells in let left = c.loop-component.pending in let s : ℕ = c.in-Some.sample in
    let cells' = c.read_sample.new.coder.cells in let left' = c.read_sample.new.pending in
    let reads : ReadsSample p c.args.kind (f k) s cells cells' left left' =
    at_place (goal.at.loop-component-preserved c).After-neighbours-near (λ q near. ReadsSample q c.args.kind near s cells cells' left left')
    c.in-Some.ensures.read in
    let small : s ≤ p.maxval = subst (λ (z : CodingParameters). s ≤ z.maxval) i.parameters c.in-Some.ensures.sample in
    let near = near_small p n place.width (above_of place) c.requires.above c.args.row.now c.requires.row k in
    let lp = ap length c.push.ensures in let la = length-append c.loop-component.pixel (s ∷ []) in let count = i.count in
    record {
      begun = λ earlier t. (let b = i.begun earlier t in
          subst (λ z. PixelBegun p c.args.kind f n c.args.pending.now earlier z (k + 1) cells' left') (sym c.push.ensures)
          (begun_more p c.args.kind f n c.args.pending.now earlier c.loop-component.pixel k cells left b i.count
          c.loop-component-test.true
          c.args.coder.now.in_range c.requires.kind near s small cells' left' (reads (earlier ++ b.done) b.cells_after)));
      count = omega arith;
      small = subst (AllByRecursion (λ s. s ≤ p.maxval)) (sym c.push.ensures)
          (all_append (λ s. s ≤ p.maxval) c.loop-component.pixel (s ∷ []) i.small (small, tt));
      parameters = c.read_sample.ensures.parameters ∙ i.parameters;
    }

pub returns-clause-no : goal.returns-clause-no
returns-clause-no c = λ _ earlier t x.
    let p = c.args.coder.now.cells.parameters in let i = c.loop-component.invariant in
    whole_uncut p c.args.coder.now.in_range c.args.kind (near_at c.args.place.now c.args.row.now) c.args.place.now.components
    c.args.pending.now earlier c.loop-component.pixel c.loop-component.component c.loop-component.coder.cells c.loop-component.pending
    (i.begun earlier t) i.count c.loop-component-test.false x
