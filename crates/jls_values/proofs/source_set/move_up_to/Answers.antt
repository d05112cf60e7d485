use Rattle.std.proofs.Common.{◌-◌, ◌<◌, ◌≡◌, length, drop, take, subst, sym, arith, length-drop}
use Rattle.std.specs.List.{AllByRecursion}
use Rattle.std.proofs.lemmas.List.{take_all}
use Rattle.jls_values.proofs.SourceMerges.{above_from}
use Rattle.jls_values.proofs.source_set.move_up_to.Goals as goal

-- the numbers that are left are above the last
pub returns-then-last-number-clause-above : goal.returns-then-last-number-clause-above
returns-then-last-number-clause-above c =
    let xs = c.args.above.now in
    let i = c.loop-i.i in
    let whole : take (length xs - i) (drop i xs) ≡ drop i xs = take_all (length xs - i) (drop i xs) (omega (arith, length-drop i xs)) in
    subst (AllByRecursion (λ n. c.args.last < n)) (sym whole)
    (above_from c.args.numbers.now.items xs i c.args.last c.requires.sources c.loop-i-test.true c.if-last-number.true)
