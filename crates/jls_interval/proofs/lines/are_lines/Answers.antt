use Rattle.jls_interval.specs.Lines.{IsLine}
use Rattle.jls_interval.proofs.LineLists.{mapped_at}
use Rattle.jls_interval.proofs.lines.are_lines.Goals as goal

-- one that is no line
pub returns-then-not-is_line : goal.returns-then-not-is_line
returns-then-not-is_line c = (
  λ no. cc,
  λ all. c.if-not-is_line.ensures.1
      (mapped_at (IsLine c.args.params.now c.args.width) (λ line. line.now) c.args.lines.now c.loop-line.line-index _ c.loop-line-test.true
      all),
)
