use Rattle.std.proofs.Common.{◌*◌, ◌^◌, ◌≤◌, ◌-◌, ◌%◌, ap, arith}
use Rattle.std.proofs.Math.Pow.{pow_mono}
use Rattle.jls_bits.specs.Packing.{bits_put}
use Rattle.jls_bits.proofs.DataBits.{width_bounds}
use Rattle.jls_bits.proofs.Padding.{finish_partial, finish_stuffed, finish_whole}
use Rattle.jls_bits.proofs.packing.Packing.padded.Goals as goal
use Rattle.jls_bits.proofs.packing.Packing.padded.Goals.{then-count-gt0+in_ok-push, else-count-gt0+then-last+in_ok-push-2}
use Rattle.jls_bits.proofs.packing.Packing.padded.Goals.{else-count-gt0+else-last}

pub overflow_cast-partial : goal.overflow_cast-partial
overflow_cast-partial c =
    let s = c.args.self in let w = width_bounds s.last in
    let m : 2 ^ s.count ≤ 2 ^ 8 = pow_mono {i = s.count} {j = 8} (omega (arith, w, c.requires.few)) in
    omega (arith, m, c.requires.packing.waiting)

-- the bytes with the last one filled up are the pad of the bits
pub returns : goal.returns
unfolding bits_put
returns c =
    let p = c.requires.packing in
    elim c.if-count-gt0.branch [
      | then-count-gt0+in_ok-push w ↦
          rw (w.bytes-is, w.in_ok-push.ensures.items)
          (finish_partial c.args.self.bytes.items c.args.self.last c.args.self.count c.args.self.waiting p.filled p.last
          (c.args.self.waiting * 2 ^ (w.width_after.result - c.args.self.count) % 256) c.requires.few p.waiting w.if-count-gt0.true
          (ap (λ z. c.args.self.waiting * 2 ^ (z - c.args.self.count) % 256) w.width_after.ensures.width))
      | else-count-gt0+then-last+in_ok-push-2 w ↦
          rw (w.bytes-is, w.in_ok-push-2.ensures.items)
          (finish_stuffed c.args.self.bytes.items c.args.self.last c.args.self.count c.args.self.waiting p.filled p.last
          (omega (arith, w.if-count-gt0.false)) w.if-last.true)
      | else-count-gt0+else-last w ↦
          rw w.bytes-is (finish_whole c.args.self.bytes.items c.args.self.last c.args.self.count c.args.self.waiting p.filled p.last
          (omega (arith, w.if-count-gt0.false)) w.if-last.false)
    ]
