use Rattle.std.proofs.Common.{List, Vec, Global, subst, sym}
use Rattle.std.specs.List.{AllByRecursion}
use Rattle.jls_held.specs.Judging.{coding_of}
use Rattle.jls_held.specs.declared.judging.EditedCopy.{EditedCopy}
use Rattle.jls_carried.specs.CodingLines.{HasPrintedNumber}
use Rattle.jls_carried.proofs.MappedLists.{mapped_at}
use Rattle.jls_carried.proofs.coding_lines.put_all_copies.Goals as goal

pub put_each_copy-requires : goal.put_each_copy-requires
put_each_copy-requires c =
    let v = c.copies-item.result in
    subst (λ (xs : List EditedCopy). AllByRecursion HasPrintedNumber (coding_of xs)) (sym c.deref.ensures.value)
    (mapped_at (AllByRecursion HasPrintedNumber) (λ (coding : Vec EditedCopy Global). coding_of coding.items) c.args.codings.now
    c.loop-copies.copies-index v v c.loop-copies-test.true c.copies-item.is c.requires)
