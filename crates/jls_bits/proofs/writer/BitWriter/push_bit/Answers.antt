use Rattle.std.proofs.Common.{◌≡◌, ◌++◌, OnOk, subst}
use Rattle.jls_bits.proofs.PackedBits.{bit_is}
use Rattle.jls_bits.proofs.writer.BitWriter.push_bit.Goals as goal

pub returns-clause-ok : goal.returns-clause-ok
returns-clause-ok c =
    let r = c.push_zeros_then_bits in
    subst (λ z. OnOk r.result (r.new.self ≡ c.args.self.now ++ z)) (bit_is c.args.bit) r.ensures.ok
