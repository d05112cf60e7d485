use Rattle.std.proofs.Common.{◌≡◌, ◌∙◌, ap, arith}
use Rattle.jls_partial.specs.Partial.{readings_at}
use Rattle.jls_partial.proofs.Statuses.{one_reading, settled_by}
use Rattle.jls_write.proofs.picture.unsettled_line.Goals as goal

-- the first line with none or several readings is not settled
pub returns-then-count-ne1 : goal.returns-then-count-ne1
returns-then-count-ne1 c =
    let p = c.args.partial.now in
    let height : c.height-line-end.result ≡ p.shape.height = c.height-line-end.ensures.value ∙ ap (λ s. s.height) c.shape.ensures.value in
    record {
      component_in = c.requires;
      line_in = omega arith;
      unsettled = λ settled. c.if-count-ne1.true (c.count.ensures ∙ one_reading (readings_at p c.args.component c.loop-line.line) settled);
      lines_before = λ line before. settled_by (readings_at p c.args.component line) (c.loop-line.invariant line before);
    }

-- no line below the height was found unsettled
pub returns : goal.returns
returns c = λ line below.
    let p = c.args.partial.now in
    let height : c.height-line-end.result ≡ p.shape.height = c.height-line-end.ensures.value ∙ ap (λ s. s.height) c.shape.ensures.value in
    settled_by (readings_at p c.args.component line) (c.loop-line.invariant line (omega arith))
