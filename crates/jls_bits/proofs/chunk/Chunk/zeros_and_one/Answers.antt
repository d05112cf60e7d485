use Rattle.std.proofs.Common.{◌≡◌, ◌+◌, ◌*◌, ◌^◌, ◌%◌, ◌<◌, sym, ap, subst, ◌∙◌, arith}
use Rattle.jls_bits.specs.Bits.{bits}
use Rattle.jls_bits.proofs.ChunkBits.{one_of_64, one_then, one_then_small}
use Rattle.jls_bits.proofs.chunk.Chunk.zeros_and_one.Goals as goal

pub invariant_of-result : goal.invariant_of-result
invariant_of-result c =
    let z = c.args.zeros in let n = c.args.count in let x = c.args.value in
    let o : 1 * 2 ^ n % 18446744073709551616 ≡ 2 ^ n = one_of_64 n (omega (arith, c.requires.room)) in
    (omega (arith, c.requires.room), subst (λ y. y + x < 2 ^ (z + n + 1)) (sym o) (one_then_small z n x c.requires.value))

pub returns : goal.returns
returns c =
    let z = c.args.zeros in let n = c.args.count in let x = c.args.value in
    let o : 1 * 2 ^ n % 18446744073709551616 ≡ 2 ^ n = one_of_64 n (omega (arith, c.requires.room)) in
    ap (λ y. bits (z + n + 1) (y + x)) o ∙ one_then z n x c.requires.value
