use Rattle.std.proofs.Common.{◌-◌, ◌∙◌, ap}
use Rattle.jls_interval.proofs.LinesInBlocks.{into_block}
use Rattle.jls_interval.proofs.finished_lines.FinishedLines.share.Goals as goal

-- the lines in blocks and those after them are the same lines
pub returns : goal.returns
returns c =
    let i = c.self.inside in
    into_block i.blocks.items c.push.new.self.items c.in_ok-block.block i.lines.items c.replace-block.result.items
    c.replace-block.new.dest.items (c.len-count.result - 8) c.in_ok-push.ensures.items (ap (λ v. v.items) c.in_ok-block.ensures.ok)
    (ap (λ v. v.items) c.replace-block.ensures.value ∙ c.in_ok-last.ensures.items)
    (ap (λ v. v.items) c.replace-block.ensures.after ∙ c.in_ok-last.ensures.tail)
    ∙ c.self.view_is
