use Rattle.std.proofs.Common.{◌+◌, ◌++◌, ap, ◌∙◌}
use Rattle.jls_bits.specs.Bits.{bits}
use Rattle.jls_bits.proofs.PackedBits.{zeros_in_prefix}
use Rattle.jls_bits.proofs.writer.BitWriter.push_zeros_then_bits.Goals as goal

pub append-requires-clause-value : goal.append-requires-clause-value
append-requires-clause-value c = (zeros_in_prefix c.args.zeros c.args.count c.args.value c.requires.value).1

pub returns-then-has_place-clause-ok : goal.returns-then-has_place-clause-ok
returns-then-has_place-clause-ok c =
    c.append.ensures.bits ∙ ap (λ z. z ++ bits (c.args.zeros + c.args.count) c.args.value) c.self.view_is
    ∙ ap (λ z. c.args.self.now ++ z) (zeros_in_prefix c.args.zeros c.args.count c.args.value c.requires.value).0
