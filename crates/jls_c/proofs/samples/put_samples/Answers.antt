use Rattle.std.proofs.Common.{◌≡◌, ℕ, ◌+◌, ◌-◌, ◌*◌, ◌<◌, List, length, refl, arith}
use Rattle.std.proofs.lemmas.Nat.{row_fits}
use Rattle.jls_c.specs.Lines.{shown_component}
use Rattle.jls_c.proofs.Rows.{put_row, length_rows_more}
use Rattle.jls_c.proofs.samples.put_samples.Goals as goal

pub slice_bounds-put_component-end : goal.slice_bounds-put_component-end
slice_bounds-put_component-end c =
    let p = c.args.partial.now in
    let size = p.shape.height * p.shape.width in
    let count : length c.ids.result.now ≡ length p.shape.ids = cc in
    let below : c.loop-component.component < length p.shape.ids = omega (arith, count) in
    let area : c.from.result * c.from-2.result ≡ p.shape.height * p.shape.width = cc in
    let at : c.from-in-loop-component.result * (c.from.result * c.from-2.result)
    ≡ c.loop-component.component * (p.shape.height * p.shape.width) = cc in
    let row = row_fits c.loop-component.component size (length p.shape.ids) size below (omega arith) in
    omega (arith, row, at, area, c.requires)

pub loop-component-preserved : goal.loop-component-preserved
loop-component-preserved c =
    let p = c.args.partial.now in
    let f : ℕ → List ℕ = shown_component p in
    let so_far = c.loop-component.invariant in
    let size = c.from.result * c.from-2.result in
    let area : c.from.result * c.from-2.result ≡ p.shape.height * p.shape.width = cc in
    let start = c.from-in-loop-component.result * size in
    let at : c.from-in-loop-component.result * (c.from.result * c.from-2.result)
    ≡ c.loop-component.component * (p.shape.height * p.shape.width) = cc in
    record {
      long = length_rows_more f (p.shape.height * p.shape.width) c.loop-component.component c.put_component.new.out so_far.long
          c.put_component.ensures.shown c.put_component.ensures.long;
      out = put_row f (p.shape.height * p.shape.width) c.loop-component.component start
          (start + size - start) c.args.out.now c.loop-component.out _
          c.put_component.new.out so_far.long so_far.out c.put_component.ensures.shown at (omega (arith, area)) refl;
    }
