use Rattle.std.proofs.Common.{◌≡◌, ◌*◌, ◌^◌, ◌+◌, ◌%◌, arith, ap}
use mir.Val.{bool_byte}
use Rattle.std.proofs.lemmas.Nat.{shl_whole}
use Rattle.jls_bits.proofs.CodeSteps.{remainder_more, remainder_whole}
use Rattle.jls_bits.proofs.code_state.push_to_remainder.Goals as goal

-- the remainder still lacks bits
pub returns-then-count-k : goal.returns-then-count-k
returns-then-count-k c = λ g qbpp room short.
    let w : c.args.quotient * 2 ^ c.args.k % 4294967296 ≡ c.args.quotient * 2 ^ c.args.k =
    shl_whole c.args.quotient 8 c.args.k 32 (omega arith) (omega (arith, c.requires.k)) in
    remainder_whole c.args.k g qbpp room c.args.quotient c.args.count c.args.value
    (c.args.quotient * 2 ^ c.args.k % 4294967296 + (2 * c.args.value + bool_byte c.args.bit)) c.args.bit short c.requires.value
    c.if-count-k.true (ap (λ x. x + (2 * c.args.value + bool_byte c.args.bit)) w)

pub returns-else-count-k : goal.returns-else-count-k
returns-else-count-k c = λ g qbpp room short.
    remainder_more c.args.k g qbpp room c.args.quotient c.args.count c.args.value c.args.bit short c.requires.value
    (omega (arith, c.requires.count))
