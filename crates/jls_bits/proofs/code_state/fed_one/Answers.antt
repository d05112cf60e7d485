use Rattle.std.proofs.Common.{length, ap, arith}
use Rattle.jls_bits.proofs.ChunkSteps.{length_fed}
use Rattle.jls_bits.proofs.code_state.fed_one.Goals as goal

pub returns-then-saturating_add-lt56-clause-few : goal.returns-then-saturating_add-lt56-clause-few
returns-then-saturating_add-lt56-clause-few c =
    let l = length_fed c.args.zeros c.args.number.count c.args.number.value in let e = ap length c.zeros_and_one.ensures in omega arith

pub returns-else-saturating_add-lt56-clause-none : goal.returns-else-saturating_add-lt56-clause-none
returns-else-saturating_add-lt56-clause-none c = let l = length_fed c.args.zeros c.args.number.count c.args.number.value in omega arith
