use Rattle.std.proofs.Common.{arith, ap, ◌∙◌}
use Rattle.std.proofs.lemmas.List.{nil_from_length}
use Rattle.jls_bits.specs.Bits.{bits_read_after}
use Rattle.jls_bits.proofs.DataBits.{data_end}
use Rattle.jls_bits.proofs.reader.next_byte.Goals as goal

pub returns-in-None-clause-none : goal.returns-in-None-clause-none
returns-in-None-clause-none c =
    ap (bits_read_after c.args.before) (nil_from_length c.args.bytes.now (omega (arith, c.in-None.ensures.cases))) ∙ data_end c.args.before
