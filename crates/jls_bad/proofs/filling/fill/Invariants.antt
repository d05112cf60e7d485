use Rattle.std.proofs.Common.{◌≡◌, length}
use Rattle.jls_bad.specs.Inside.{IsFilled, marked_byte_for}
use Rattle.jls_bad.proofs.filling.fill.Given as goal

abbrev pub invariant-loop-offset : goal.invariant-loop-offset
invariant-loop-offset l = record {
  filled : IsFilled (marked_byte_for l.copies l.copy) l.offset l.bytes.items l.is_lost.items;
  lost : length l.is_lost.items ≡ l.offset;
}
