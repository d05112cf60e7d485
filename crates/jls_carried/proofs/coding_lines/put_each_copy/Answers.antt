use Rattle.jls_held.specs.Judging.{edited_copy_of}
use Rattle.jls_carried.specs.CodingLines.{HasPrintedNumber}
use Rattle.jls_carried.proofs.MappedLists.{mapped_at}
use Rattle.jls_carried.proofs.coding_lines.put_each_copy.Goals as goal

pub put_copy-requires : goal.put_copy-requires
put_copy-requires c =
    let v = c.copy-item.result in
    mapped_at HasPrintedNumber edited_copy_of c.args.copies.now c.loop-copy.copy-index v v c.loop-copy-test.true c.copy-item.is c.requires
