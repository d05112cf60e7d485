use Rattle.jls_splice_run.specs.ReadsAs.{HaveComponentAlike}
use Rattle.jls_splice_run.proofs.ReadAlike.{one_more}
use Rattle.jls_splice_run.proofs.reading_as.have_all_alike.Goals as goal

pub loop-component-preserved : goal.loop-component-preserved
loop-component-preserved c =
    one_more (HaveComponentAlike c.args.read.now c.args.picture.now) c.loop-component.component c.loop-component.invariant
    (c.have_component_alike-alike.ensures c.if-not-alike.false)
