use Rattle.std.proofs.Common.{◌≡◌, ◌-◌, ◌∙◌, ap, arith}
use Rattle.std.proofs.lemmas.Bool.{ne_eqb}
use Rattle.jls_report.specs.Lines.{is_missing, reading_count}
use Rattle.jls_report.proofs.RangeEnds.{range_end}
use Rattle.jls_report.proofs.ranges.end_of_range.Goals as goal

-- this line has a reading, so that the range ends before it
pub returns-then-count-ne0 : goal.returns-then-count-ne0
returns-then-count-ne0 c =
    let p = c.args.partial.now in
    let height : c.height-height.result ≡ p.shape.height = c.height-height.ensures.value ∙ ap (λ s. s.height) c.shape.ensures.value in
    range_end (is_missing p c.args.component) c.args.first c.loop-line.line p.shape.height (omega arith) (omega arith) c.loop-line.invariant
    (λ _. ne_eqb (reading_count p c.args.component c.loop-line.line) 0 (λ e. c.if-count-ne0.true (c.count.ensures ∙ e)))

-- no line before the height has a reading, so that the range ends at the last line
pub returns : goal.returns
returns c =
    let p = c.args.partial.now in
    let height : c.height-height.result ≡ p.shape.height = c.height-height.ensures.value ∙ ap (λ s. s.height) c.shape.ensures.value in
    ap (λ h. h - 1) height ∙ range_end (is_missing p c.args.component) c.args.first p.shape.height p.shape.height (omega arith)
    (omega arith) (λ k low high. c.loop-line.invariant k low (omega arith)) (λ less. absurd (omega arith))
