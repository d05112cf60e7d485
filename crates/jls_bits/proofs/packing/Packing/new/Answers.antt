use Rattle.std.proofs.Common.{◌++◌, ap, sym, subst, ◌∙◌, arith}
use Rattle.jls_bits.specs.Bits.{bits, bits_read}
use Rattle.jls_bits.specs.Packing.{bits_put}
use Rattle.jls_bits.specs.Appending.{last_after, AreFilled}
use Rattle.jls_bits.proofs.NumberBits.{bits_none}
use Rattle.jls_bits.proofs.DataBits.{data_end, whole_end, width_bounds}
use Rattle.jls_bits.proofs.packing.Packing.new.Goals as goal

-- no byte and no bit are in order
pub returns-clause-packing : goal.returns-clause-packing
returns-clause-packing c =
    let w = width_bounds 0 in
    record {
      filled = subst AreFilled (sym c.new.ensures.items) (record { are_bytes = tt; whole = whole_end 0 });
      last =
          sym (ap (last_after 0) c.new.ensures.items);
      count = omega (arith, w);
      waiting = omega arith;
    }

pub returns-clause-none : goal.returns-clause-none
unfolding bits_put
returns-clause-none c = ap (λ z. bits_read z ++ bits 0 0) c.new.ensures.items ∙ ap (λ z. z ++ bits 0 0) (data_end 0) ∙ bits_none 0
