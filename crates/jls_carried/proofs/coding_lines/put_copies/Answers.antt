use Rattle.std.proofs.Common.{arith}
use Rattle.jls_held.specs.Judging.{edited_copy_of}
use Rattle.jls_carried.specs.CodingLines.{HasPrintedNumber}
use Rattle.jls_carried.proofs.MappedLists.{mapped_at}
use Rattle.jls_carried.proofs.coding_lines.put_copies.Goals as goal

pub overflow_add-copy : goal.overflow_add-copy
overflow_add-copy c =
    let v = c.copy-item.result in
    let fits = mapped_at HasPrintedNumber edited_copy_of c.args.copies.now c.loop-copy.copy-index v v c.loop-copy-test.true c.copy-item.is
    c.requires in
    omega (arith, fits)
