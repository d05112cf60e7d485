use Rattle.std.proofs.Common.{List, ℕ, sym, subst, arith}
use Rattle.jls_bits.specs.Bits.{bits_read}
use Rattle.jls_pixel.specs.PixelBytes.{IsDecoder}
use Rattle.jls_pixel.proofs.pixel_decoder.PixelDecoder.try_clone.Goals as goal

pub invariant_of-result : goal.invariant_of-result
invariant_of-result c =
    let i = c.self.inside in let v = c.self.invariant in let new = c.in_ok-reader.reader in let o = c.in_ok-reader.ensures in
    let bytes : List ℕ = i.unstuffer in
    subst (λ (z : List ℕ). IsDecoder i.params z i.ended i.refused new) (sym c.to_owned.ensures) (record {
      in_range = v.in_range;
      width_at_least = (let a = v.width_at_least in let b = o.shape.width in omega arith);
      are_bytes = v.are_bytes;
      decoding = λ f. (let h = v.decoding f in
          record {
            ended_is = h.ended_is;
            whole = h.whole;
            reading = λ e. o.reading i.params (bits_read bytes) (h.reading e);
          });
    })
