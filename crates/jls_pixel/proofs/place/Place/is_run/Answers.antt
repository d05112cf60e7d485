use Rattle.std.proofs.Common.{◌+◌, ◌-◌, ◌&&◌, ℕ, map, sym, ap, ◌∙◌}
use Rattle.std.specs.List.{list_all, range_with_len}
use Rattle.jls_context.specs.declared.mode.Neighbours.{Neighbours}
use Rattle.jls_context.specs.Mode.{is_run_mode}
use Rattle.jls_pixel.specs.Pixels.{component_neighbours}
use Rattle.jls_pixel.specs.Place.{above_of}
use Rattle.jls_pixel.proofs.PixelSteps.{range_first}
use Rattle.jls_pixel.proofs.place.Place.is_run.Goals as goal

pub loop-component-preserved : goal.loop-component-preserved
loop-component-preserved c =
    let f : ℕ → Neighbours = component_neighbours c.args.self.now.width (above_of c.args.self.now) c.args.row.now in
    let k = c.loop-component.component in let n = c.args.self.now.components in
    record {
      rest = c.loop-component.invariant.rest ∙ ap (list_all is_run_mode) (range_first f k n c.loop-component-test.true)
          ∙ ap (λ b. b && list_all is_run_mode (map f (range_with_len (k + 1) (n - (k + 1)))))
          (sym c.has_no_gradient.ensures ∙ c.if-not-has_no_gradient.false);
    }

pub returns-then-not-has_no_gradient : goal.returns-then-not-has_no_gradient
returns-then-not-has_no_gradient c =
    let f : ℕ → Neighbours = component_neighbours c.args.self.now.width (above_of c.args.self.now) c.args.row.now in
    let k = c.loop-component.component in let n = c.args.self.now.components in
    sym (c.loop-component.invariant.rest ∙ ap (list_all is_run_mode) (range_first f k n c.loop-component-test.true)
    ∙ ap (λ b. b && list_all is_run_mode (map f (range_with_len (k + 1) (n - (k + 1)))))
    (sym c.has_no_gradient.ensures ∙ c.if-not-has_no_gradient.true))
