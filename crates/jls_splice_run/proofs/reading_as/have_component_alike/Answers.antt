use Rattle.jls_splice_run.specs.ReadsAs.{HaveLineAlike}
use Rattle.jls_splice_run.proofs.ReadAlike.{one_more}
use Rattle.jls_splice_run.proofs.reading_as.have_component_alike.Goals as goal

pub loop-line-preserved : goal.loop-line-preserved
loop-line-preserved c =
    one_more (HaveLineAlike c.args.read.now c.args.picture.now c.args.component) c.loop-line.line c.loop-line.invariant
    (c.have_line_alike-alike.ensures c.if-not-alike.false)
