use Rattle.std.proofs.Common.{◌++◌, ap, sym, subst, ◌∙◌}
use Rattle.jls_bits.specs.Bits.{bits, bits_read}
use Rattle.jls_bits.specs.Packing.{bits_put}
use Rattle.jls_bits.specs.Appending.{last_after, AreFilled}
use Rattle.jls_bits.proofs.packing.Packing.reserve.Goals as goal

-- the bytes are the same, so they are in order
pub returns-clause-packing : goal.returns-clause-packing
returns-clause-packing c =
    record {
      filled = subst AreFilled (sym c.reserve.ensures.items) c.requires.filled;
      last = c.requires.last
          ∙ sym (ap (last_after 0) c.reserve.ensures.items);
      count = c.requires.count;
      waiting = c.requires.waiting;
    }

pub returns-clause-bits : goal.returns-clause-bits
unfolding bits_put
returns-clause-bits c = ap (λ z. bits_read z ++ bits c.args.self.now.count c.args.self.now.waiting) c.reserve.ensures.items
