use Rattle.std.proofs.Common.{◌<◌, length, ◌∙◌, arith, below_more}
use Rattle.jls_search.proofs.Paths.{same_ways, other_ways}
use Rattle.jls_search.proofs.choosing.first_equal.Goals as goal

pub returns-then-eq-clause-new : goal.returns-then-eq-clause-new
returns-then-eq-clause-new c = λ k less e.
    let l : c.loop-other.other < length c.args.ways.now = omega (arith, c.loop-other-test.true, c.requires) in
    c.loop-other.invariant k less (e ∙ same_ways c.args.ways.now c.loop-other.other c.args.copy _ l c.requires c.if-eq.ensures)

pub returns-then-eq-clause-same : goal.returns-then-eq-clause-same
returns-then-eq-clause-same c =
    let l : c.loop-other.other < length c.args.ways.now = omega (arith, c.loop-other-test.true, c.requires) in
    same_ways c.args.ways.now c.loop-other.other c.args.copy _ l c.requires c.if-eq.ensures

pub loop-other-preserved : goal.loop-other-preserved
loop-other-preserved c =
    let l : c.loop-other.other < length c.args.ways.now = omega (arith, c.loop-other-test.true, c.requires) in
    below_more _ _ c.loop-other.invariant (other_ways c.args.ways.now c.loop-other.other c.args.copy _ l c.requires c.if-eq.ensures)
