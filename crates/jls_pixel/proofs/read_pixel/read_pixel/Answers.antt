use Rattle.std.proofs.Common.{ℕ, ◌+◌, ◌≤◌, [], ◌∷◌, ◌++◌, length, refl, sym, ap, ◌∙◌, subst, arith, length-append}
use Rattle.std.specs.List.{AllByRecursion}
use Rattle.jls_values.specs.Params.{CodingParameters}
use Rattle.jls_context.specs.declared.mode.Neighbours.{Neighbours}
use Rattle.jls_pixel.specs.Pixels.{RowsAbove, component_neighbours}
use Rattle.jls_pixel.specs.Place.{above_of}
use Rattle.jls_pixel.specs.Reading.{ReadsSample, RefusesSample}
use Rattle.jls_pixel.proofs.PixelLists.{near_small, nears_length, all_append}
use Rattle.jls_pixel.proofs.PixelBegun.{PixelBegun, begun_none, begun_more, begun_refused, begun_whole}
use Rattle.jls_pixel.proofs.read_pixel.read_pixel.Goals as goal

pub loop-component-init : goal.loop-component-init
loop-component-init c =
    let cells = c.args.coder.now.cells in let p = cells.parameters in let given = c.args.pending.now in let n =
    c.args.place.now.components in
    let f : ℕ → Neighbours = component_neighbours c.args.place.now.width (above_of c.args.place.now) c.args.row.now in
    record {
      begun = λ earlier t. subst (λ z. PixelBegun p c.args.kind f n given earlier z 0 cells given) (sym c.new-pixel.ensures)
          (begun_none p c.args.kind f n given earlier cells t);
      count = ap length c.new-pixel.ensures;
      small = subst (AllByRecursion (λ s. s ≤ p.maxval)) (sym c.new-pixel.ensures) tt;
      parameters = refl;
    }

pub read_sample-requires-clause-above : goal.read_sample-requires-clause-above
read_sample-requires-clause-above c =
    let p = c.args.coder.now.cells.parameters in let up : RowsAbove = above_of c.args.place.now in
    let s = near_small p c.args.place.now.components c.args.place.now.width up c.requires.above c.args.row.now c.requires.row
    c.loop-component.component in
    subst (λ (q : CodingParameters). c.neighbours-near.result.rb ≤ q.maxval) (sym c.loop-component.invariant.parameters)
    (subst (λ (z : Neighbours). z.rb ≤ p.maxval) (sym c.neighbours-near.ensures) s.rb)

pub returns-in-None-clause-refused : goal.returns-in-None-clause-refused
returns-in-None-clause-refused c = λ earlier t xs rest l small e.
    let p = c.args.coder.now.cells.parameters in let i = c.loop-component.invariant in let n = c.args.place.now.components in
    let up : RowsAbove = above_of c.args.place.now in let k = c.loop-component.component in
    let f : ℕ → Neighbours = component_neighbours c.args.place.now.width up c.args.row.now in
    let cells = c.loop-component.coder.cells in let left = c.loop-component.pending in
    let none : RefusesSample p c.args.kind (f k) cells left =
    subst (λ (z : Neighbours). RefusesSample p c.args.kind z cells left) c.neighbours-near.ensures
    (subst (λ (z : CodingParameters). RefusesSample z c.args.kind c.neighbours-near.result cells left) i.parameters
    c.in-None.ensures.refused) in
    let b = i.begun earlier t in
    begun_refused p c.args.kind f n c.args.pending.now earlier c.loop-component.pixel k cells left b i.count c.loop-component-test.true
    (none (earlier ++ b.done) b.cells_after) xs rest (l ∙ nears_length c.args.place.now.width up c.args.row.now n) small e

pub loop-component-preserved : goal.loop-component-preserved
loop-component-preserved c =
    let p = c.args.coder.now.cells.parameters in let i = c.loop-component.invariant in let n = c.args.place.now.components in
    let up : RowsAbove = above_of c.args.place.now in let k = c.loop-component.component in
    let f : ℕ → Neighbours = component_neighbours c.args.place.now.width up c.args.row.now in
    let cells = c.loop-component.coder.cells in let left = c.loop-component.pending in let s : ℕ = c.in-Some.sample in
    let cells' = c.read_sample.new.coder.cells in let left' = c.read_sample.new.pending in
    let reads : ReadsSample p c.args.kind (f k) s cells cells' left left' =
    subst (λ (z : Neighbours). ReadsSample p c.args.kind z s cells cells' left left') c.neighbours-near.ensures
    (subst (λ (z : CodingParameters). ReadsSample z c.args.kind c.neighbours-near.result s cells cells' left left') i.parameters
    c.in-Some.ensures.read) in
    let small : s ≤ p.maxval = subst (λ (z : CodingParameters). s ≤ z.maxval) i.parameters c.in-Some.ensures.sample in
    let near = near_small p n c.args.place.now.width up c.requires.above c.args.row.now c.requires.row k in
    let lp = ap length c.push.ensures in let la = length-append c.loop-component.pixel (s ∷ []) in let count = i.count in
    record {
      begun = λ earlier t. (let b = i.begun earlier t in
          subst (λ z. PixelBegun p c.args.kind f n c.args.pending.now earlier z (k + 1) cells' left') (sym c.push.ensures)
          (begun_more p c.args.kind f n c.args.pending.now earlier c.loop-component.pixel k cells left b i.count
          c.loop-component-test.true
          c.args.coder.now.in_range c.requires.kind near s small cells' left' (reads (earlier ++ b.done) b.cells_after)));
      count = omega arith;
      small = subst (AllByRecursion (λ s. s ≤ p.maxval)) (sym c.push.ensures)
          (all_append (λ s. s ≤ p.maxval) c.loop-component.pixel (s ∷ []) i.small (small, tt));
      parameters = c.read_sample.ensures.parameters ∙ i.parameters;
    }

pub returns-clause-read : goal.returns-clause-read
returns-clause-read c = λ earlier t.
    let p = c.args.coder.now.cells.parameters in let i = c.loop-component.invariant in let n = c.args.place.now.components in
    let f : ℕ → Neighbours = component_neighbours c.args.place.now.width (above_of c.args.place.now) c.args.row.now in
    begun_whole p c.args.kind f n c.args.pending.now earlier c.loop-component.pixel c.loop-component.component
    c.loop-component.coder.cells c.loop-component.pending (i.begun earlier t) c.loop-component-test.false
