use Rattle.std.proofs.Common.{◌≡◌, ◌≤◌, ℕ, ◌∙◌, List, map, ap, subst, length, arith}
use borrow.Author.Count.{below_more}
use Rattle.std.specs.List.{range_with_len}
use Rattle.jls_values.specs.Shape.{PictureShape}
use Rattle.jls_write.specs.Picture.{line_of}
use Rattle.jls_write.specs.WholePictures.{IsLineIn}
use Rattle.jls_write.proofs.Columns.{lent_more, lines_to, lent}
use Rattle.jls_write.proofs.pixels.lines_of_row.Goals as goal

-- the line of one component more is there
pub loop-component-preserved : goal.loop-component-preserved
loop-component-preserved c =
    let len = c.push.ensures.len in
    let so_far = c.loop-component.invariant.len in
    record {
      lines = lent_more c.args.picture.now c.args.row c.loop-component.component c.loop-component.lines.items c.push.new.self.items _
          c.loop-component.invariant.lines c.line.ensures.value c.push.ensures.items;
      len = omega (arith, len, so_far);
      each = below_more (λ k. IsLineIn c.args.picture.now.shape (line_of c.args.picture.now k c.args.row)) c.loop-component.component
          c.loop-component.invariant.each
          (subst (λ (t : List ℕ). IsLineIn c.args.picture.now.shape t) c.line.ensures.value (c.line.ensures.width, c.line.ensures.samples));
    }

-- each lent line is a line of the picture
pub returns-clause-they_fit : goal.returns-clause-they_fit
returns-clause-they_fit c =
    let pic = c.args.picture.now in
    let few = subst (λ (s : PictureShape). length s.ids ≤ 4) c.shape.ensures c.ids.ensures.ranges.ids_at_most in
    let count_is : length c.ids.result.now ≡ length pic.shape.ids = ap length c.ids.ensures.value
    ∙ ap (λ (s : PictureShape). length s.ids) c.shape.ensures in
    let all : c.loop-component.component ≡ length pic.shape.ids =
    omega (arith, count_is, c.loop-component-test.false, c.loop-component.auto.component-end) in
    let of : ℕ → List ℕ = λ component. line_of pic component c.args.row in
    lines_to pic c.args.row (lent c.loop-component.lines.items)
    (c.loop-component.invariant.lines ∙ ap (λ n. map of (range_with_len 0 n)) all) few
    (λ k inside. c.loop-component.invariant.each k (omega (arith, all, inside)))
