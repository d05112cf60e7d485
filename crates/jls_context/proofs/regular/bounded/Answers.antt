use Rattle.std.proofs.Common.{arith}
use Rattle.std.proofs.lemmas.Int.{ints, clamps}
use Rattle.jls_context.proofs.regular.bounded.Goals as goal

pub returns-then-moved-ltminus128 : goal.returns-then-moved-ltminus128
returns-then-moved-ltminus128 c =
    let t = c.if-moved-ltminus128.true in let a = c.requires.correction_at_least in let b = c.requires.moved_at_least in
    omega (arith, ints, clamps)

pub returns-then-moved-gt127 : goal.returns-then-moved-gt127
returns-then-moved-gt127 c =
    let t = c.if-moved-gt127.true in let a = c.requires.correction_at_most in let b = c.requires.moved_at_most in
    omega (arith, ints, clamps)

pub returns : goal.returns
returns c = let low = c.if-moved-ltminus128.false in let high = c.if-moved-gt127.false in omega (arith, ints, clamps)
