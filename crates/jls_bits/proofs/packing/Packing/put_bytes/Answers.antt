use Rattle.std.proofs.Common.{◌≡◌, ◌-◌, ◌*◌, ◌/◌, ◌%◌, ◌^◌, ◌<◌, ◌≤◌, ◌++◌, ap, sym, subst, refl, ◌∙◌, arith}
use Rattle.std.proofs.Math.Pow.{pow_mono}
use Rattle.jls_bits.specs.Bits.{bits, bits_read}
use Rattle.jls_bits.specs.Appending.{last_after, AreFilled}
use Rattle.jls_bits.specs.Packing.{bits_put}
use Rattle.jls_bits.proofs.DataBits.{width_bounds}
use Rattle.jls_bits.proofs.Appending.{last_append}
use Rattle.jls_bits.proofs.ChunkBits.{one_of_64}
use Rattle.jls_bits.proofs.PackedBits.{byte_small, byte_fills, byte_taken, kept_small}
use Rattle.jls_bits.proofs.packing.Packing.put_bytes.Goals as goal

-- before the first byte, the bits that wait are all there
pub loop-width-init : goal.loop-width-init
unfolding bits_put
loop-width-init c =
    let p = c.requires.packing in
    record {
      filled = p.filled;
      last = p.last;
      width = c.width_after-width.ensures.width;
      left = p.count;
      small = p.waiting;
      put = refl;
      capacity = refl;
      growth = omega arith;
    }

pub overflow_cast-byte-in-loop-width : goal.overflow_cast-byte-in-loop-width
overflow_cast-byte-in-loop-width c =
    let l = c.loop-width in let i = l.invariant in let w = width_bounds l.self.last in
    let b = byte_small l.self.bytes.items l.self.last l.width l.left l.waiting i.filled i.last i.width c.loop-width-test.true i.small in
    let m : 2 ^ l.width ≤ 2 ^ 8 = pow_mono {i = l.width} {j = 8} (omega (arith, w, i.width)) in omega (arith, b, m)

pub push_reserved-requires : goal.push_reserved-requires
push_reserved-requires c =
    let i = c.loop-width.invariant in let w = width_bounds c.loop-width.self.last in
    omega (arith, w, i.width, i.growth, i.capacity, c.requires.room, c.loop-width-test.true)

pub loop-width-smaller : goal.loop-width-smaller
loop-width-smaller c =
    let i = c.loop-width.invariant in let w = width_bounds c.loop-width.self.last in omega (arith, w, i.width, c.loop-width-test.true)

-- a byte that is put leaves all bits as they were, and fewer that wait
pub loop-width-preserved : goal.loop-width-preserved
loop-width-preserved c =
    let l = c.loop-width in let i = l.invariant in let w = width_bounds l.self.last in let h = c.loop-width-test.true in
    let rest = l.left - l.width in let x = l.waiting / 2 ^ rest in let bytes = l.self.bytes.items in
    let kept : l.waiting % (1 * 2 ^ rest % 18446744073709551616) ≡ l.waiting % 2 ^ rest =
    ap (λ z. l.waiting % z) (one_of_64 rest (omega (arith, i.left))) in
    let items = c.push_reserved.ensures.items in
    record {
      filled = subst AreFilled (sym items) (byte_fills bytes l.self.last l.width l.left l.waiting i.filled i.last i.width h i.small);
      last = sym (ap (last_after 0) items ∙ last_append 0 bytes x);
      width = c.width_after-width-in-loop-width.ensures.width;
      left = omega (arith, i.left);
      small = subst (λ z. z < 2 ^ rest) (sym kept)
          (kept_small bytes l.self.last l.width l.left l.waiting i.filled i.last i.width h i.small);
      put = ap (λ z. bits_read z ++ bits rest (l.waiting % (1 * 2 ^ rest % 18446744073709551616))) items
          ∙ byte_taken bytes l.self.last l.width l.left l.waiting i.filled i.last i.width h i.small
          (l.waiting % (1 * 2 ^ rest % 18446744073709551616)) kept ∙ i.put;
      capacity = c.push_reserved.ensures.capacity ∙ i.capacity;
      growth = omega (arith, c.push_reserved.ensures.len, i.growth, i.width, w, h);
    }

pub returns-clause-bits : goal.returns-clause-bits
unfolding bits_put
returns-clause-bits c = c.loop-width.invariant.put
