use Rattle.std.proofs.Common.{◌<◌, length, arith, below_more}
use Rattle.jls_search.proofs.Paths.{same_ways, other_ways}
use Rattle.jls_search.proofs.choosing.is_new.Goals as goal

pub returns-then-eq : goal.returns-then-eq
returns-then-eq c =
    let l : c.loop-other.other < length c.args.ways.now = omega (arith, c.loop-other-test.true, c.requires) in (
      λ t. absurd cc,
      λ new. absurd (new c.loop-other.other c.loop-other-test.true
          (same_ways c.args.ways.now c.loop-other.other c.args.choice _ l c.requires c.if-eq.ensures)),
    )

pub loop-other-preserved : goal.loop-other-preserved
loop-other-preserved c =
    let l : c.loop-other.other < length c.args.ways.now = omega (arith, c.loop-other-test.true, c.requires) in
    below_more _ _ c.loop-other.invariant (other_ways c.args.ways.now c.loop-other.other c.args.choice _ l c.requires c.if-eq.ensures)
