use Rattle.jls_splice_run.proofs.Members.{is_copy_at}
use Rattle.jls_splice_run.proofs.files.is_copy.Goals as goal

pub returns-then-eq : goal.returns-then-eq
returns-then-eq c = is_copy_at c.args.copies.now c.args.file.now c.loop-copy.copy-index _ c.loop-copy-test.true c.if-eq.ensures
