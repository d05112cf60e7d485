use Rattle.std.proofs.Common.{[], ◌<◌, arith}
use Rattle.jls_mend.proofs.ListFiles.{list_at}
use Rattle.jls_mend.proofs.naming.values_for.Goals as goal

pub overflow_add-bad : goal.overflow_add-bad
overflow_add-bad c =
    let few = list_at c.args.bad.now c.loop-index.index c.loop-index-test.true (λ l. l.copy < 4294967295)
    (record { copy = 0; text = record { ref_ptr = (0, 0); now = [] } }) c.requires in
    omega (arith, few)
