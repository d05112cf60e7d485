use Rattle.std.proofs.Common.{◌+◌, ◌-◌, ◌++◌, ◌∷◌, [], ℕ, length, map, sym, ap, ◌∙◌, append_assoc, arith, length-append}
use Rattle.std.specs.List.{range_with_len}
use Rattle.jls_context.specs.declared.mode.Neighbours.{Neighbours}
use Rattle.jls_pixel.specs.Pixels.{component_neighbours, run_value}
use Rattle.jls_pixel.specs.Place.{above_of}
use Rattle.jls_pixel.proofs.PixelSteps.{range_first}
use Rattle.jls_pixel.proofs.place.Place.run_value.Goals as goal

pub loop-component-preserved : goal.loop-component-preserved
loop-component-preserved c =
    let f : ℕ → Neighbours = component_neighbours c.args.self.now.width (above_of c.args.self.now) c.args.row.now in
    let k = c.loop-component.component in let n = c.args.self.now.components in
    let i = c.loop-component.invariant in let rest = run_value (map f (range_with_len (k + 1) (n - (k + 1)))) in
    let p = c.push.ensures in let lp = ap length p in let la = length-append c.loop-component.value (c.neighbours.result.ra ∷ []) in
    record {
      so_far = i.so_far ∙ ap (λ z. c.loop-component.value ++ run_value z) (range_first f k n c.loop-component-test.true)
          ∙ ap (λ (z : Neighbours). c.loop-component.value ++ z.ra ∷ rest) (sym c.neighbours.ensures)
          ∙ sym (append_assoc c.loop-component.value (c.neighbours.result.ra ∷ []) rest) ∙ ap (λ z. z ++ rest) (sym p);
      count = let j = i.count in omega arith;
    }
